-- One that holds nothing owns nothing, so it can be let go.
use Rattle.std.proofs.Common.{List, [], ◌∷◌, ◌++◌, refl, sym, subst}
use mir.Syntax.{ty_ptr}
use mir.Val.{Val, vunit, has_ty_of}
use base.Logic.{SProp, ent, id⊢}
use base.Fml.{ftrue}
use prog.Wp.{WpFn}
use types.Kit.{‵, raw, ◌⊛◌, ◌$◌, ◌∵◌, !, qed, by, move, keep, drop, split, fsplit, fjoin, feq_i, suffices}
use types.Run.{of_opd, unit_lit, returns, enter}
use types.ByLocal.{alloc_all, pass_all, free_all, look_at, sets}
use contract.Running.{tables}
use denote.Exit.{yes}
use denote.RattleType.{owns}
use denote.RawPtr.{ptr_val, rawptr_Lawful}
use denote.Signature.{types_at, plain}
use denote.Steps.{nothing}
use denote.Triple.Walked.{Stays, stay_dropped, walk_of}
use Rattle.std.proofs.ResultValues.{and_tt}
use Rattle.std.proofs.alloc.Calls.{Goes-blank}
use Rattle.std.proofs.raw_atomic.Walks.{proved_at, leaves}
use Rattle.transcoder_handle.specs.contracts.held.Held as held
use Rattle.transcoder_handle.proofs.Values.{word, held_out}
use Rattle.transcoder_handle.specs.contracts.held.Held.discard.{ended, clauses}
use Rattle.transcoder_handle.specs.contracts.held.Held.discard.Key.{name as #self}
use Rattle.transcoder_handle.proofs.held.Held.discard.Statement.{statement}
use Rattle.transcoder_handle.proofs.held.Held.discard.Code as code

abbrev stayed : Stays ended.signature.params ended.kept
stayed = (stay_dropped (plain (λ _. held.the_row)) yes, tt)

pub discard_spec : {M : Type 1} → statement M
discard_spec 𝓤 𝓛 𝓜 𝓡 wired =
    let H = 𝓛.H in let 𝓣 = tables 𝓤 H 𝓜 𝓡 𝓡.env in let c = clauses 𝓛 𝓜.mem 𝓡.returns in
    proved_at 𝓛 ended stayed c 𝓜 𝓡 (Goes-blank 𝓛 0 (plain (λ _. held.the_row)) yes (λ κs x f. tt), tt) #self code.function
    (code.unfolded 𝓤 H 𝓜 𝓡 wired) (λ z are.
    let Post : Val → SProp 𝓤 = (walk_of 𝓛 ended stayed c).post z in let d = z.0.3.0 in let w : Val = word d.at in
    let Run : List Val → SProp 𝓤 = λ ws. WpFn 𝓤 H 𝓣.C 𝓣.Λ code.function ws Post in
    qed 𝓛 ((‵ ftrue ⊛ ‵ (owns (types_at ended.signature.params z.0.0) z.0.3 z.0.4)) ∷ raw ((c z.0.0 z.0.3).requires z.1) ∷ []) ∵
    split ! $ move ! (2 ∷ []) $ drop ! $ move ! (1 ∷ []) $ fsplit ! $ held_out ! d z.0.4.0 (λ ws. drop ! $
    let ok = ((rawptr_Lawful 𝓛).typed d.at (ptr_val d.at ∷ []) refl).0 in
    suffices ! (Run (w ∷ []))
    (subst (λ (us : List Val). ent 𝓤 (Run (w ∷ [])) (Run us)) (sym (λ i. ws i ++ [])) (id⊢ 𝓤 (Run (w ∷ [])))) $
    enter ! 𝓣.C 𝓣.Λ code.function (w ∷ []) Post $
    alloc_all ! (λ l. pass_all ! refl ((and_tt (has_ty_of ty_ptr (ptr_val d.at)) ok.0, (ok.1, tt)), tt) $
    sets ! (of_opd ! (unit_lit !)) refl (tt, tt) $ returns ! (look_at ! 0 refl) $ free_all ! refl $
    nothing ! $ nothing ! $ fjoin ! $ nothing ! $ feq_i ! (List Val) (vunit ∷ []) _ refl $ keep ! (4 ∷ 2 ∷ 0 ∷ 1 ∷ []) $
    by ! (leaves 𝓛 ended stayed c z vunit tt (tt, tt) (tt, tt)))))
