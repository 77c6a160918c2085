-- The header, and then one section after another.
use Rattle.std.proofs.Common.{◌≡◌, ◌++◌, List, ap, ◌∙◌, append_assoc}
use Rattle.std.specs.Prelude.{string_bytes}
use Rattle.std.proofs.lemmas.Result.{on_ok_weaker}
use Rattle.spec_machine.specs.Listing.{constant_line, instr_line, jumps_line, lines, map_line, miss_line}
use Rattle.assembler.proofs.listing.push_listing.Goals as goal

two : {A : Type 0} (old mid new a b : List A) → mid ≡ old ++ a → new ≡ mid ++ b → new ≡ old ++ (a ++ b)
two old mid new a b ea eb = eb ∙ ap (λ l. l ++ b) ea ∙ append_assoc old a b

pub returns : goal.returns
returns c =
    let header = string_bytes c.push_str.new.self in
    let constants = string_bytes c.push_constants.new.output in
    let maps = string_bytes c.push_maps.new.output in
    let jumps = string_bytes c.push_tables.new.output in
    let misses = string_bytes c.push_misses.new.output in
    on_ok_weaker c.push_code.result (λ h.
    two (string_bytes c.args.output.now) header _ _ _ c.in_ok-push_str.ensures.bytes
    (two header constants _ _ _ (c.in_ok-push_constants.ensures ∙ ap (λ xs. header ++ lines constant_line xs) c.constants.ensures)
    (two constants maps _ _ _ (c.in_ok-push_maps.ensures ∙ ap (λ xs. constants ++ lines map_line xs) c.maps.ensures)
    (two maps jumps _ _ _ (c.in_ok-push_tables.ensures ∙ ap (λ xs. maps ++ lines jumps_line xs) c.jumps.ensures)
    (two jumps misses _ _ _ (c.in_ok-push_misses.ensures ∙ ap (λ xs. jumps ++ lines miss_line xs) c.misses.ensures)
    (h ∙ ap (λ xs. misses ++ lines instr_line xs) c.code.ensures)))))) c.push_code.ensures
