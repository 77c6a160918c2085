use Rattle.std.proofs.Common.{rules}
use Rattle.assembler.proofs.Reading.{under_header}
use Rattle.assembler.proofs.assembling.take_listing.Goals as goal

pub returns : goal.returns
returns c =
    rw (under_header c.args.text.now c.in-Some.parts.0.now c.in-Some.parts.1.now c.in-Some.ensures.0 (search rules)) c.take_lines.ensures
