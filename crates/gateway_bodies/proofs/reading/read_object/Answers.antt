-- The members of an object, or another value.
use Rattle.std.proofs.Common.{◌≡◌, ◌∷◌, [], ap, ◌∙◌, subst, sym, arith}
use Rattle.std.proofs.lemmas.Result.{IfOk-weaker}
use Rattle.json.specs.Token as tokens
use Rattle.json.specs.Reads.{token_of}
use Rattle.serde_json.specs.Data.{object}
use Rattle.gateway_bodies.proofs.Values.{IsNoObject, mapped_read, mapped_refused, no_object_at, nothing_is_no_object, nothing_refused, object_opened, read_at}
use Rattle.gateway_bodies.proofs.reading.read_object.Goals as goal

pub returns-in_err-token-clause-err : goal.returns-in_err-token-clause-err
returns-in_err-token-clause-err c = λ e.
    let empty : c.args.reader.now ≡ [] = grind arith in
    nothing_is_no_object _ (ap (read_at 127) empty ∙ nothing_refused 127)

pub returns-in-BeginObject-clause-ok : goal.returns-in-BeginObject-clause-ok
returns-in-BeginObject-clause-ok c =
    let ts = c.next.new.self in
    let first : c.args.reader.now ≡ token_of c.in_ok-token.token ∷ ts = grind arith in
    let is : c.args.reader.now ≡ tokens.begin_object ∷ ts = grind (arith, first) in
    let opened = ap (read_at 127) is ∙ object_opened 127 ts (omega arith) in
    IfOk-weaker c.read_rest.result _ _ (λ found w. (w.0, opened ∙ mapped_read object _ w.0 _ w.1, w.2)) c.read_rest.ensures.ok

pub returns-in-BeginObject-clause-err : goal.returns-in-BeginObject-clause-err
returns-in-BeginObject-clause-err c = λ e.
    let ts = c.next.new.self in
    let first : c.args.reader.now ≡ token_of c.in_ok-token.token ∷ ts = grind arith in
    let is : c.args.reader.now ≡ tokens.begin_object ∷ ts = grind (arith, first) in
    nothing_is_no_object _ (ap (read_at 127) is ∙ object_opened 127 ts (omega arith) ∙ mapped_refused object _ (c.read_rest.ensures.err e))

pub returns-in_default-clause-err : goal.returns-in_default-clause-err
returns-in_default-clause-err c = λ e.
    let ts = c.next.new.self in
    let first : c.args.reader.now ≡ token_of c.in_ok-token.token ∷ ts = grind arith in
    subst (λ all. IsNoObject (read_at 127 all)) (sym first) (no_object_at 127 ts c.in_ok-token.token c.in_default.not-BeginObject)
