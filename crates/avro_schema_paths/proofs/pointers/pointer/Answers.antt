-- The text is the path's pointer, which leads where the path does.
use Rattle.std.proofs.Common.{◌≡◌, ◌++◌, ◌∙◌, List, ℕ, ap, subst, sym, string_bytes}
use Rattle.avro_schema_paths.specs.Pointers.{LeadsAsPath, pointer_of}
use Rattle.avro_schema_paths.proofs.Pointing.{pointers_lead}
use Rattle.avro_schema_paths.proofs.pointers.pointer.Goals as goal

pub returns-clause-leads : goal.returns-clause-leads
returns-clause-leads c =
    let path = c.args.path.now in
    let is : string_bytes c.push_steps.new.text ≡ pointer_of path = c.in_ok-push_steps.ensures.text ∙ ap (λ (old : List ℕ). old ++ pointer_of path) c.new-text.ensures.bytes in
    subst (λ (text : List ℕ). LeadsAsPath text path) (sym is) (pointers_lead path c.in_ok-push_steps.ensures.short)
