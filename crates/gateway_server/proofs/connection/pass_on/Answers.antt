-- The answer was passed on with the date.
use Rattle.gateway_server.proofs.Passed.{passed}
use Rattle.gateway_server.proofs.connection.pass_on.Goals as goal

pub returns : goal.returns
returns g c =
    passed c.answer.result c.args.bytes c.date.result c.args.stays.now c.answer.new.self c.answer.ensures.answered
    c.answer.ensures.own c.answer.ensures.served
