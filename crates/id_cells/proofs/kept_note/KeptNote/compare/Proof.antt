-- A note and what is kept of its cell know one value.
use Rattle.std.proofs.Common.{◌≡◌, ℕ, List, [], ◌∷◌, ◌++◌, refl, sym, subst, IfSome}
use mir.Syntax.{Ty, a_type}
use lib.Dec.{T}
use mir.Val.{Val, vptr, vunit, has_ty, WT}
use mir.MapTy.{inst_fn}
use base.Logic.{SProp, ent, emp, via, id⊢, fst∗, apply∗, guard_i, all, all_e}
use base.Fml.{Lft, Share, Fml, ftrue, fsep, flft}
use prog.Wp.{WpFn}
use types.Logic.{sem}
use types.Kit.{‵, raw, ◌⊛◌, given, later, ◌$◌, ◌∵◌, !, qed, by, move, keep, split, join, fsplit, fsplit3, fjoin, learn, suffices, use0, use1, use2, await, rewrite, feq_i}
use types.Run.{of_opd, returns, enter, unit_lit}
use types.ByLocal.{alloc_all, pass_all, free_all, look_at, sets}
use contract.Monad.{fact, fact_i, fact_use}
use contract.BorrowLft.{◌⊑◌}
use contract.Running.{tables}
use denote.Exit.{no}
use denote.Laws.{Typed}
use denote.RattleType.{RattleType, owns}
use denote.Signature.{types_at, type_at, plain}
use denote.Steps.{nothing, heard}
use denote.Param.{param, layout, layouts}
use denote.Param.Laws.{param_laws}
use denote.Triple.Walked.{Stays, stay_dropped, walk_of, Goes-dropped, stay_ref, Goes-ref}
use Rattle.once_cell.specs.Once.{Agrees, noted}
use Rattle.std.proofs.raw_atomic.Walks.{proved_at, leaves}
use Rattle.id_cells.proofs.kept_note.KeptNote.TheLaws as kept_laws
use Rattle.id_cells.specs.contracts.kept_note.KeptNote as Kept
use Rattle.once_cell.proofs.Notes as notes
use Rattle.once_cell.proofs.Notes.{Note}
use Rattle.id_cells.specs.contracts.kept_note.KeptNote.compare.{ended, clauses}
use Rattle.id_cells.specs.contracts.kept_note.KeptNote.compare.Key.{name as #self}
use Rattle.id_cells.proofs.kept_note.KeptNote.compare.Statement.{statement}
use Rattle.id_cells.proofs.kept_note.KeptNote.compare.Code as code

-- the one value of a list that fits one type
one : (τ : Ty) (vs : List Val) → Typed (τ ∷ []) vs → (v : Val) × (vs ≡ v ∷ []) × (T (has_ty τ v) × WT v)
one τ [] t = absurd t
one τ (v ∷ []) t = (v, refl, t.0)
one τ (v ∷ w ∷ vs) t = absurd t.1

pub compare_spec : {M : Type 1} → statement M
compare_spec 𝓤 𝓛 𝓜 𝓡 wired T L =
    let H = 𝓛.H in let 𝓣 = tables 𝓤 H 𝓜 𝓡 𝓡.env in let R : RattleType = param 0 T in let LR = param_laws 0 T L in let En = ended T in let c = clauses T 𝓛 𝓜.mem 𝓡.returns in
    let inst = layouts (a_type ∷ []) (T, tt) in let fn = inst_fn inst code.function in let S : RattleType = Kept.the_row R in
    let hs : Stays En.signature.params En.kept = (stay_ref (0 ∷ []) tt (plain (λ _. Note 𝓛 R)), (stay_dropped (plain (λ _. S)) no, tt)) in
    proved_at 𝓛 En hs c 𝓜 𝓡 (Goes-ref 𝓛 2 0 tt (plain (λ _. Note 𝓛 R)), (Goes-dropped 𝓛 2 (plain (λ _. S)) no (λ κs x f. refl), tt)) (#self inst) fn (code.unfolded 𝓤 H 𝓜 𝓡 wired (T, tt)) (λ z are.
    let κs = z.0.0 in let qs = z.0.1 in let Post : Val → SProp 𝓤 = (walk_of 𝓛 En hs c).post z in let Run : List Val → SProp 𝓤 = λ ws. WpFn 𝓤 H 𝓣.C 𝓣.Λ fn ws Post in let Out : RattleType = type_at En.signature.result κs in
    let κ' : Lft = κs.0 in let q' : Share = qs.0 in let m = z.0.3.0 in let nb₀ : ℕ = m.ref_ptr.0 in let no₀ : ℕ = m.ref_ptr.1 in let ν₀ : ℕ = m.ghost_name in let n = m.now in let γ : ℕ = n.cell in
    let Shuts = notes.Shuts 𝓛 R κ' q' nb₀ no₀ ν₀ in let N : Fml = noted R γ n.known in let x = z.0.3.1.0 in let So : Type 0 = IfSome x.known (Agrees n.known) in let Told : Type 0 = (n ≡ n) × So in
    let v = one (layout S) z.0.4.1.0 (((kept_laws.the_row_laws R LR).lawful 𝓛).typed x z.0.4.1.0 are.1.0) in let Vs : List Val = vptr nb₀ no₀ ∷ v.0 ∷ [] in
    qed 𝓛 (((‵ (flft κ' q') ⊛ ‵ (fsep (flft κs.1.0 qs.1.0) ftrue)) ⊛ ‵ (owns (types_at En.signature.params κs) z.0.3 z.0.4)) ∷ raw (fact 𝓤 (κs.1.0 ⊑ T.lives)) ∷ raw (fact 𝓤 (x.cell ≡ γ)) ∷ []) ∵
    move ! (2 ∷ []) $ heard ! (x.cell ≡ γ) (λ same. split ! $ split ! $ move ! (2 ∷ []) $ fsplit3 ! $ fsplit ! $ move ! (2 ∷ []) $ fsplit ! $ keep ! (3 ∷ 5 ∷ 1 ∷ 6 ∷ []) $ rewrite ! 2 (λ (j : ℕ). ‵ (noted R j x.known)) same refl $
    suffices ! (Run Vs) (subst (λ (us : List Val). ent 𝓤 (Run Vs) (Run us)) (sym (λ i. are.0.0 i ++ (v.1 i ++ []))) (id⊢ 𝓤 (Run Vs))) $
    enter ! 𝓣.C 𝓣.Λ fn Vs Post $ alloc_all ! (λ l. pass_all ! refl ((tt, tt), (v.2, tt)) $
    use2 𝓛 (later (‵ N ⊛ raw (all 𝓤 Shuts))) (notes.note_opens 𝓛 R κ' q' nb₀ no₀ ν₀ n) $ await ! tt $ split ! $ move ! (0 ∷ 2 ∷ []) $
    use2 𝓛 (given So (‵ N)) (fact_use 𝓤 So (notes.noted_agree 𝓛 R γ n.known x.known) (λ so. via 𝓤 _ (fst∗ 𝓤 (sem 𝓛 N) (sem 𝓛 (noted R γ x.known))) (guard_i 𝓤 So (sem 𝓛 N) so))) $ learn ! (λ so.
    move ! (1 ∷ []) $ use1 𝓛 (raw (Shuts n)) (all_e 𝓤 Shuts n) $ move ! (1 ∷ 0 ∷ []) $ use2 𝓛 (later (‵ (notes.lent 𝓛 R κ' q' nb₀ no₀ ν₀ n) ⊛ ‵ (flft κ' q'))) (apply∗ 𝓤 (sem 𝓛 N) _) $ await ! tt $ split ! $
    feq_i ! (List Val) z.0.4.0 (vptr nb₀ no₀ ∷ []) are.0.0 $ fjoin ! $ nothing ! $ nothing ! $ fjoin ! $ move ! (1 ∷ 0 ∷ []) $ fjoin ! $ move ! (1 ∷ 2 ∷ []) $ join ! $
    sets ! (of_opd ! (unit_lit !)) refl (tt, tt) $ feq_i ! (List Val) (vunit ∷ []) (vunit ∷ []) refl $ use0 𝓛 (raw (fact 𝓤 Told)) (fact_i 𝓤 Told (emp 𝓤) (refl, so)) $
    returns ! (look_at ! 0 refl) $ free_all ! refl $ keep ! (2 ∷ 3 ∷ 1 ∷ 0 ∷ []) $ by ! (leaves 𝓛 En hs c z vunit tt (n, (tt, tt)) (tt, (tt, tt)))))))
