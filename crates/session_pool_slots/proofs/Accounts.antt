-- Accounts of sessions.
use Rattle.std.proofs.Common.{◌≡◌, ◌≤◌, ℕ, refl, arith, ap, ◌∙◌, ⊎_elim}
use Rattle.spec_sessions.specs.Session.{Session}
use Rattle.spec_sessions.specs.Rows.{TakesRows}
use Rattle.spec_sessions.specs.Account.{Account}
use Rattle.session_pool_slots.specs.Account.{At, RowsOn, kept, told_all}

-- the account that a client's call leaves is that of the session that it gives back

pub kept_fits : (a : Account) (x : Session) → a.seen ≤ x.count → At (kept a x) x
kept_fits a x h = record { program = refl; bytes = refl; closed = refl; breaks = refl; seen = h }

pub told_fits : (a : Account) (x : Session) → At (told_all a x) x
told_fits a x = record { program = refl; bytes = refl; closed = refl; breaks = refl; seen = omega arith }

-- what taking rows leaves as it was
pub record SameButRows (y x : Session) : Type 0 where
  pub program : x.program ≡ y.program
  pub bytes : x.bytes ≡ y.bytes
  pub closed : x.closed ≡ y.closed
  pub breaks : x.breaks ≡ y.breaks
  pub count : y.count ≤ x.count

same_by : (y x z : Session) → x ≡ z → SameButRows y z → SameButRows y x
same_by y x z e s = record {
  program = ap (λ (t : Session). t.program) e ∙ s.program;
  bytes = ap (λ (t : Session). t.bytes) e ∙ s.bytes;
  closed = ap (λ (t : Session). t.closed) e ∙ s.closed;
  breaks = ap (λ (t : Session). t.breaks) e ∙ s.breaks;
  count = (let c = ap (λ (t : Session). t.count) e in let d = s.count in omega arith);
}

same_but_rows : (all : ℕ) (y : Session) (rows : ℕ) (x : Session) → TakesRows all y rows x → SameButRows y x
same_but_rows all y rows x t = ⊎_elim
    (λ a. same_by y x _ (a.1) (record { program = refl; bytes = refl; closed = refl; breaks = refl; count = omega arith }))
    (λ a. same_by y x _ (a.1) (record { program = refl; bytes = refl; closed = refl; breaks = refl; count = omega arith }))
    t

pub rows_keep : (y x : Session) → RowsOn y x → SameButRows y x
rows_keep y x r = same_but_rows r.0 y r.1 x r.2

-- an account still fits a session some rows on
pub rows_fit : (y x : Session) → RowsOn y x → (a : Account) → At a y → At a x
rows_fit y x r a h = let s = rows_keep y x r in record {
  program = s.program ∙ h.program;
  bytes = s.bytes ∙ h.bytes;
  closed = s.closed ∙ h.closed;
  breaks = s.breaks ∙ h.breaks;
  seen = (let c = s.count in let d = h.seen in omega arith);
}
