use Rattle.std.proofs.Common.{◌≡◌, ◌∙◌, codes, sym}
use Rattle.std.proofs.lemmas.Bool.{false≢true}
use Rattle.std.proofs.lemmas.Bool.Decides.{Decides-eqb}
use Rattle.std.proofs.lemmas.Slice.Eq.{slice_eq-Decides}
use Rattle.registry_store.proofs.Bodies.{body_splits, level_reads, no_verb, register_reads}
use Rattle.registry_store.specs.Reading.{ReadsAs}
use Rattle.registry_store.specs.Stored.{stored_of}
use Rattle.registry_store.proofs.reading.read_body.Goals as goal

pub returns-in_default-clause-reads : goal.returns-in_default-clause-reads
returns-in_default-clause-reads c = λ stored may e.
    let parts = body_splits stored in
    absurd (c.in_default.ensures parts.verb parts.fields parts.lacks (e ∙ parts.split))

pub returns-then-eq-clause-reads : goal.returns-then-eq-clause-reads
returns-then-eq-clause-reads c =
    let is : c.in-Some.verb.now ≡ codes "register" = (slice_eq-Decides Decides-eqb _ _ _ c.eq.ensures).0 c.if-eq.true ∙ c.as_slice.ensures in
    register_reads (λ stored. ReadsAs c.read_registration.result (λ command. stored_of command ≡ stored)) c.args.body.now c.in-Some.verb.now c.in-Some.fields.now is c.in-Some.ensures c.read_registration.ensures.reads

pub returns-then-eq-2-clause-reads : goal.returns-then-eq-2-clause-reads
returns-then-eq-2-clause-reads c =
    let is : c.in-Some.verb.now ≡ codes "level" = (slice_eq-Decides Decides-eqb _ _ _ c.eq-else-eq.ensures).0 c.if-eq-2.true ∙ c.as_slice-else-eq.ensures in
    level_reads (λ stored. ReadsAs c.read_level.result (λ command. stored_of command ≡ stored)) c.args.body.now c.in-Some.verb.now c.in-Some.fields.now is c.in-Some.ensures c.read_level.ensures.reads

pub returns-else-eq-2-clause-reads : goal.returns-else-eq-2-clause-reads
returns-else-eq-2-clause-reads c = λ stored may e.
    let no_register = λ (is : c.in-Some.verb.now ≡ codes "register"). false≢true (sym c.if-eq.false ∙ (slice_eq-Decides Decides-eqb _ _ _ c.eq.ensures).1 (is ∙ sym c.as_slice.ensures)) in
    let no_level = λ (is : c.in-Some.verb.now ≡ codes "level"). false≢true (sym c.if-eq-2.false ∙ (slice_eq-Decides Decides-eqb _ _ _ c.eq-else-eq.ensures).1 (is ∙ sym c.as_slice-else-eq.ensures)) in
    absurd (no_verb c.args.body.now c.in-Some.verb.now c.in-Some.fields.now no_register no_level c.in-Some.ensures stored e)
