-- A value by its first token.
use Rattle.std.proofs.Common.{◌≡◌, ◌∷◌, [], List, length, string_bytes, refl, ap, ◌∙◌, arith, rules}
use Rattle.std.proofs.lemmas.Result.{IfOk-weaker}
use Rattle.json.specs.Token as tokens
use Rattle.json.specs.Token.{Token}
use Rattle.json.specs.Reads.{token_of}
use Rattle.serde_json.specs.Data.{array, null, string}
use Rattle.gateway_bodies.proofs.Turns.{at_err}
use Rattle.gateway_bodies.proofs.Values.{array_opened, mapped_read, mapped_refused, nothing_refused, null_read, other_value, read_at, string_read}
use Rattle.gateway_bodies.proofs.reading.read_value.Goals as goal

pub returns-in_err-token-clause-err : goal.returns-in_err-token-clause-err
returns-in_err-token-clause-err c = λ e.
    let empty : c.args.reader.now ≡ [] = grind arith in
    ap (read_at c.args.depth) empty ∙ nothing_refused c.args.depth

pub returns-in-Null-clause-ok : goal.returns-in-Null-clause-ok
returns-in-Null-clause-ok c =
    let first : c.args.reader.now ≡ token_of c.in_ok-token.token ∷ c.next.new.self = grind arith in
    let is : c.args.reader.now ≡ tokens.null ∷ c.next.new.self = grind (arith, first) in
    (null, ap (read_at c.args.depth) is ∙ null_read c.args.depth c.next.new.self, refl)

pub returns-in_ok-from_str-in-String-clause-ok : goal.returns-in_ok-from_str-in-String-clause-ok
returns-in_ok-from_str-in-String-clause-ok c =
    let s = c.in-String.text.now in
    let first : c.args.reader.now ≡ token_of c.in_ok-token.token ∷ c.next.new.self = grind arith in
    let is : c.args.reader.now ≡ tokens.string s ∷ c.next.new.self = grind (arith, first) in
    let copied : string_bytes c.in_ok-from_str-in-String.field-0 ≡ s = search rules in
    (string s, ap (read_at c.args.depth) is ∙ string_read c.args.depth c.next.new.self s, ap string copied)

pub returns-in-BeginArray-clause-ok : goal.returns-in-BeginArray-clause-ok
returns-in-BeginArray-clause-ok c =
    let ts = c.next.new.self in
    let first : c.args.reader.now ≡ token_of c.in_ok-token.token ∷ ts = grind arith in
    let is : c.args.reader.now ≡ tokens.begin_array ∷ ts = grind (arith, first) in
    let opened = ap (read_at c.args.depth) is ∙ array_opened c.args.depth ts (omega arith) in
    IfOk-weaker c.read_array.result _ _ (λ v w. (array w.0, opened ∙ mapped_read array _ w.0 _ w.1, w.2)) c.read_array.ensures.ok

pub returns-in-BeginArray-clause-err : goal.returns-in-BeginArray-clause-err
returns-in-BeginArray-clause-err c = λ e.
    let ts = c.next.new.self in
    let first : c.args.reader.now ≡ token_of c.in_ok-token.token ∷ ts = grind arith in
    let is : c.args.reader.now ≡ tokens.begin_array ∷ ts = grind (arith, first) in
    ap (read_at c.args.depth) is ∙ array_opened c.args.depth ts (omega arith) ∙ mapped_refused array _ (at_err c.read_array.result _ e c.read_array.ensures.err)

pub returns-in_ok-pass_rest-in_default : goal.returns-in_ok-pass_rest-in_default
returns-in_ok-pass_rest-in_default c =
    let ts = c.next.new.self in
    let r = c.pass_rest.new.reader in
    let first : c.args.reader.now ≡ token_of c.in_ok-token.token ∷ ts = grind arith in
    let done = c.in_ok-pass_rest-in_default.ensures in
    let shorter = done.shorter in record {
      ok = (
        done.ok.0,
        ap (read_at c.args.depth) first ∙ done.ok.1,
        other_value c.args.depth ts r c.in_ok-token.token done.ok.0 c.in_default.not-Null c.in_default.not-String c.in_default.not-BeginArray done.ok.1,
      );
      shorter = let long = ap (λ (s : List Token). length s) first in omega (arith, long, shorter);
      err = λ e. absurd (cc);
    }
