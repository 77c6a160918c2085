use Rattle.std.proofs.Common.{rules}
use Rattle.store_commands.proofs.Listings.{lacks_at}
use Rattle.store_commands.proofs.listing.listing_of.Goals as goal

pub returns-then-not-is_accepted-clause-why : goal.returns-then-not-is_accepted-clause-why
returns-then-not-is_accepted-clause-why c =
    lacks_at c.args.commands.now c.loop-at.at c.index-commands-at.result c.loop-at-test.true c.index-commands-at.is (search rules)
