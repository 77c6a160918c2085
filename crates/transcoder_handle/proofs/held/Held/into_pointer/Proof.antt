-- What one holds that holds something is a box's pointer, with the heap's handle beside it.
use Rattle.std.proofs.Common.{◌≡◌, List, [], ◌∷◌, ◌++◌, refl, sym, ◌∙◌, subst}
use mathlib.Core.Bool.{true}
use mir.Syntax.{impl, tnil, dnil}
use mir.Val.{Val, vptr}
use base.Logic.{SProp, ent, emp, id⊢}
use base.Fml.{ftrue}
use prog.Wp.{WpFn}
use types.Kit.{‵, raw, ◌⊛◌, ◌$◌, ◌∵◌, !, qed, by, move, keep, split, fsplit, fjoin, suffices, use0, use1}
use types.Run.{stop, fld, of_opd, no_more, and_then, returns, enter}
use types.ByLocal.{alloc_all, pass_all, free_all, look_at, get, get_in, sets}
use types.Part.{agg, sub, whole}
use contract.Monad.{fact, fact_i}
use contract.Running.{tables}
use denote.Exit.{yes}
use denote.RattleType.{RattleType, owns}
use denote.RawPtr.{block_ptr}
use denote.Signature.{types_at, plain}
use denote.Steps.{heard, nothing}
use denote.Triple.Walked.{Stays, stay_dropped, walk_of}
use Rattle.std.specs.Prelude.{Some, is_some}
use Rattle.std.specs.Box.Ownership.{box_owns}
use Rattle.std.specs.contracts.alloc.Global as heap
use Rattle.std.specs.contracts.impls.GlobalAllocator.TheImpl.{ghosts}
use Rattle.std.proofs.alloc.Calls.{Al, handle_tells, Goes-blank}
use Rattle.std.proofs.alloc.Global.TheLaws as heap_laws
use Rattle.std.proofs.raw_atomic.Walks.{proved_at, leaves}
use Rattle.transcoder_handle.proofs.PointerValues.{both, good, put_together}
use Rattle.transcoder_handle.specs.contracts.held.Held as held
use Rattle.transcoder_handle.proofs.Values.{R, word, held_out, held_box}
use Rattle.transcoder_handle.specs.contracts.held.Held.into_pointer.{ended, clauses}
use Rattle.transcoder_handle.specs.contracts.held.Held.into_pointer.Key.{name as #self}
use Rattle.transcoder_handle.proofs.held.Held.into_pointer.Statement.{statement}
use Rattle.transcoder_handle.proofs.held.Held.into_pointer.Code as code

abbrev Z : RattleType
Z = heap.the_row

abbrev al : Al
al = record { row = Z; laws = heap_laws.the_row_laws; g = ghosts; d = impl [] tnil dnil; drops = impl [] tnil dnil }

abbrev stayed : Stays ended.signature.params ended.kept
stayed = (stay_dropped (plain (λ _. held.the_row)) yes, (stay_dropped (plain (λ _. Z)) yes, tt))

pub into_pointer_spec : {M : Type 1} → statement M
into_pointer_spec 𝓤 𝓛 𝓜 𝓡 wired =
    let H = 𝓛.H in let 𝓣 = tables 𝓤 H 𝓜 𝓡 𝓡.env in let c = clauses 𝓛 𝓜.mem 𝓡.returns in
    proved_at 𝓛 ended stayed c 𝓜 𝓡
    (Goes-blank 𝓛 0 (plain (λ _. held.the_row)) yes (λ κs x f. tt), (Goes-blank 𝓛 0 (plain (λ _. Z)) yes (λ κs x f. tt), tt))
    #self code.function (code.unfolded 𝓤 H 𝓜 𝓡 wired) (λ z are.
    let Post : Val → SProp 𝓤 = (walk_of 𝓛 ended stayed c).post z in let d = z.0.3.0 in let a = z.0.3.1.0 in
    let Run : List Val → SProp 𝓤 = λ ws. WpFn 𝓤 H 𝓣.C 𝓣.Λ code.function ws Post in
    qed 𝓛 ((‵ ftrue ⊛ ‵ (owns (types_at ended.signature.params z.0.0) z.0.3 z.0.4)) ∷ raw (fact 𝓤 (is_some d.value ≡ true)) ∷ []) ∵
    move ! (1 ∷ []) $ heard ! (is_some d.value ≡ true) (λ is. split ! $ move ! (1 ∷ []) $ fsplit ! $
    held_out ! d z.0.4.0 (λ hs. held_box ! d.at d.value is (λ b o x at some. move ! (1 ∷ []) $ fsplit ! $
    handle_tells al ! a z.0.4.1.0 (λ h ha fits.
    let w : Val = word (block_ptr b o) in
    let ws : z.0.4.0 ≡ w ∷ [] = hs ∙ (λ i. word (at i) ∷ []) in
    suffices ! (Run (w ∷ h ∷ []))
    (subst (λ (us : List Val × List Val). ent 𝓤 (Run (w ∷ h ∷ [])) (Run (us.0 ++ (us.1 ++ [])))) (λ i. (sym ws i, sym ha i))
    (id⊢ 𝓤 (Run (w ∷ h ∷ [])))) $
    enter ! 𝓣.C 𝓣.Λ code.function (w ∷ h ∷ []) Post $ alloc_all ! (λ l. pass_all ! refl ((tt, (tt, tt)), (fits, tt)) $
    sets ! (of_opd ! (get_in ! (fld ! refl (stop !)) (sub ! 0 refl (whole !)))) refl (tt, tt) $
    sets ! (of_opd ! (get ! refl)) refl (tt, tt) $
    sets ! (agg ! (and_then ! (get ! refl) (and_then ! (get ! refl) (no_more !)))) refl
    (good R Z heap_laws.the_row_laws ghosts b o h fits) $
    returns ! (look_at ! 0 refl) $ free_all ! refl $
    move ! (2 ∷ 0 ∷ []) $ use1 𝓛 (‵ (box_owns (ghosts.dealloc_token a) R (block_ptr b o) x)) (id⊢ 𝓤 _) $
    put_together R Z heap_laws.the_row_laws ghosts ! b o h a x $
    use0 𝓛 (raw (fact 𝓤 (Some x ≡ d.value))) (fact_i 𝓤 (Some x ≡ d.value) (emp 𝓤) some) $
    nothing ! $ nothing ! $ fjoin ! $ nothing ! $ fjoin ! $ keep ! (4 ∷ 0 ∷ 2 ∷ 1 ∷ []) $
    by ! (leaves 𝓛 ended stayed c z (both (vptr b o) h) (record { at = block_ptr b o; alloc = a; value = x })
    (tt, (tt, tt)) (tt, (tt, tt)))))))))
