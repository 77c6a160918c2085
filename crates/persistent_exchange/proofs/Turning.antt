-- What a server has taken of an answer.
use Rattle.std.proofs.Common.{◌≡◌, ◌≢◌, ℕ, Bool, true, false, List, [], codes, Option, Some, None, Result, Ok, Err, OnOk, OnErr, refl, sym, ap, ◌∙◌, subst}
use Rattle.http1.specs.Conn.{finish_refusal}
use Rattle.http1.specs.Output.{GivesOrRefuses}
use Rattle.http1.specs.Server.{after_end, response_refusal, writing}
use Rattle.http1.specs.declared.conn.BodySize.TheVariants.{Empty}
use Rattle.http1.specs.declared.error.WriteError.{WriteError}
use Rattle.http1.specs.declared.error.WriteError.TheVariants.{OutOfMemory}
use Rattle.http1.specs.declared.server.Server.{Server}
use Rattle.spec_service.specs.Scouting.{IsAfterAnswer, Scouted, Turns, answered, no_answer, no_end, responded}
use Rattle.persistent_exchange.specs.Scouting.{IsTaken}

-- a call that was answered had nothing to refuse
pub none_refused : {T : Type 0} (refusal : Option WriteError) (spare len : ℕ) (r : Result T WriteError) (x : T) → r ≡ Ok x
    → GivesOrRefuses refusal spare len r → refusal ≡ None
none_refused None spare len r x is gives = refl
none_refused (Some e) spare len r x is gives = let same = sym is ∙ gives in cc

-- an error that is not want of memory is the refusal
pub refused_so : {T : Type 0} (refusal : Option WriteError) (spare len : ℕ) (r : Result T WriteError) (e : WriteError)
    → r ≡ Err e → e ≢ OutOfMemory → GivesOrRefuses refusal spare len r → refusal ≡ Some e
refused_so {T} None spare len r e is other gives =
    let why = subst (λ (x : Result T WriteError). GivesOrRefuses None spare len x) is gives in
    absurd (other why.0)
refused_so (Some f) spare len r e is other gives = let same = sym gives ∙ is in cc

module _ (old now : Scouted) (same : old ≡ now) (between : Server) (spare len : ℕ) (r : Result (Unit {0}) WriteError)
    (taken : Bool) (is_taken : IsTaken r taken)
    (gives : GivesOrRefuses (response_refusal old.server 200 (codes "OK") Empty []) spare len r) where
  turned : (server : Server) → IsAfterAnswer old.server server → Turns now (record old { server = server })
  turned server after = subst (λ s. Turns s (record old { server = server })) same
      (record { server = server; after = after; new_is = refl })

  -- the answer was refused
  pub turned_unanswered : taken ≡ false → OnErr r (between ≡ old.server) → Turns now (record old { server = between })
  turned_unanswered not kept =
      let why = subst (IsTaken r) not is_taken in
      let same_server = subst (λ (x : Result (Unit {0}) WriteError). OnErr x (between ≡ old.server)) why.2 kept in
      turned between (subst (IsAfterAnswer old.server) (sym same_server)
      (no_answer why.0 (refused_so _ spare len r why.0 why.2 why.1 gives)))

  module _ (answered_is : taken ≡ true) (next : OnOk r (between ≡ responded old.server)) (server : Server) (room size : ℕ)
      (q : Result (Unit {0}) WriteError) (gives_end : GivesOrRefuses (finish_refusal (writing between) []) room size q) where
    took : r ≡ Ok tt
    took = subst (IsTaken r) answered_is is_taken

    between_is : between ≡ responded old.server
    between_is = subst (λ (x : Result (Unit {0}) WriteError). OnOk x (between ≡ responded old.server)) took next

    none : response_refusal old.server 200 (codes "OK") Empty [] ≡ None
    none = none_refused _ spare len r tt took gives

    end_of : finish_refusal (writing (responded old.server)) [] ≡ finish_refusal (writing between) []
    end_of = ap (λ (s : Server). finish_refusal (writing s) []) (sym between_is)

    -- and its end was taken, or refused
    pub turned_answered : (ended : Bool) → IsTaken q ended → OnOk q (server ≡ after_end between)
        → OnErr q (server ≡ between) → Turns now (record old { server = server })
    turned_answered true is done kept = turned server
        (subst (IsAfterAnswer old.server)
        (sym (subst (λ (x : Result (Unit {0}) WriteError). OnOk x (server ≡ after_end between)) is done ∙ ap after_end between_is))
        (answered none (end_of ∙ none_refused _ room size q tt is gives_end)))
    turned_answered false is done kept = turned server
        (subst (IsAfterAnswer old.server)
        (sym (subst (λ (x : Result (Unit {0}) WriteError). OnErr x (server ≡ between)) is.2 kept ∙ between_is))
        (no_end is.0 none (end_of ∙ refused_so _ room size q is.0 is.2 is.1 gives_end)))
