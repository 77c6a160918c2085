-- What the parts of a worker's search come to together.
use Rattle.std.proofs.Common.{◌≡◌, ℕ, List, ◌∷◌, [], ◌++◌, Option, Some, None, ap, refl, sym, ◌∙◌, append_assoc, append-nil}
use Rattle.session_pool_slots.specs.Results.{Finds, HasSame, found_of, words_of}
use Rattle.session_pool_slots.specs.Steps.{handing}
use Rattle.session_pool_slots.specs.Views.{FoundWord, found_word}
use Rattle.session_pool_slots.specs.Words.{ready}
use Rattle.session_pool_slots.specs.declared.slots.SlotSeat.{SlotSeat}
use Rattle.session_pool_slots.specs.declared.taking.RunSlice.{RunSlice}
use Rattle.session_pool_slots.specs.Known.{Known}
use Rattle.session_pool_slots.specs.Seats.{knows}
use Rattle.session_pool_slots.specs.Working.{FindsNoneReady, Runs, Sees, TakesFirst}
use Rattle.session_pool.specs.Searching.{FindsByJobs, FindsNone, FindsReady, Looks, LooksByJobs, LooksOn, TakesByJob}
use Rattle.session_pool.specs.Turning.{HasRun}

pub same_on : (u v w : Known) → HasSame u v → HasSame v w → HasSame u w
same_on u v w a b = record { passes = b.passes ∙ a.passes; handed = b.handed ∙ a.handed }

pub no_looks : (v : Known) → Looks v v
no_looks v = record { more = []; found = sym (append-nil v.found); same = record { passes = refl; handed = refl } }

pub looks_on : (u v w : Known) → Looks u v → Looks v w → Looks u w
looks_on u v w a b = record {
  more = a.more ++ b.more;
  found = b.found ∙ (ap (λ (xs : List FoundWord). xs ++ b.more) a.found ∙ append_assoc u.found a.more b.more);
  same = same_on u v w a.same b.same;
}

-- a word was found twice
pub finds_twice : (v w : Known) (slot word : ℕ) → w.found ≡ v.found ++ words_of slot (word ∷ word ∷ []) → Finds v slot word w
finds_twice v w slot word found = record { before = []; after = found_word slot word ∷ []; found = found }

-- some words were found
pub looks_at : (v w : Known) (slot : ℕ) (words : List ℕ) → w.found ≡ v.found ++ words_of slot words → HasSame v w → Looks v w
looks_at v w slot words found same = record { more = words_of slot words; found = found; same = same }

pub finds_later : (u v w : Known) (slot word : ℕ) → Looks u v → Finds v slot word w → Finds u slot word w
finds_later u v w slot word a f =
    let rest : List FoundWord = f.before ++ found_word slot word ∷ f.after in
    record {
      before = a.more ++ f.before;
      after = f.after;
      found =
          f.found ∙ (ap (λ (xs : List FoundWord). xs ++ rest) a.found
          ∙ (append_assoc u.found a.more rest ∙ ap (λ (xs : List FoundWord). u.found ++ xs) (sym (append_assoc a.more f.before (found_word slot word ∷ f.after)))));
    }

-- ---- while a session is out

pub looks_not : (s : SlotSeat) → LooksOn s s
looks_not s = record { looks = no_looks (knows s); notes = refl; holds = refl }

pub sees_on : (l m n : SlotSeat) (slot word : ℕ) → LooksOn l m → Sees slot word m n → LooksOn l n
sees_on l m n slot word a s = record {
  looks = looks_on (knows l) (knows m) (knows n) a.looks (looks_at (knows m) (knows n) slot (word ∷ []) s.found s.same);
  notes = s.notes ∙ a.notes;
  holds = s.holds ∙ a.holds;
}

-- ---- by jobs

pub takes_later : (l m n : SlotSeat) (slot : ℕ) → Looks (knows l) (knows m) → TakesByJob m slot n → TakesByJob l slot n
takes_later l m n slot a t = record {
  found = finds_later (knows l) (knows m) (knows n) slot ready a t.found;
  same = same_on (knows l) (knows m) (knows n) a.same t.same;
  noted = t.noted;
}

pub jobs_later : (l m n : SlotSeat) (r : Option ℕ) → LooksByJobs l m → FindsByJobs m r n → FindsByJobs l r n
jobs_later l m n None a f = record { looks = looks_on (knows l) (knows m) (knows n) a.looks f.looks; holds = f.holds }
jobs_later l m n (Some slot) a f = takes_later l m n slot a.looks f

-- ---- by a scan

pub scanned_none : (m n : SlotSeat) → FindsNoneReady m n → HasSame (knows m) (knows n) → FindsNone m n
scanned_none m n f same = record { jobs = knows m; looks = no_looks (knows m); scan = f.found; same = same; holds = f.holds }

-- the words that were found of the slots below come first
pub scanned_first : (m n : SlotSeat) (slot : ℕ) → TakesFirst m slot n → HasSame (knows m) (knows n) → TakesByJob m slot n
scanned_first m n slot f same = record {
  found = record { before = found_of 0 f.found.below; after = found_word slot ready ∷ []; found = f.found.found };
  same = same;
  noted = f.noted;
}

pub ready_later : (l m n : SlotSeat) (r : Option ℕ) → LooksByJobs l m → FindsReady m r n → FindsReady l r n
ready_later l m n None a f = record {
  jobs = f.jobs;
  looks = looks_on (knows l) (knows m) f.jobs a.looks f.looks;
  scan = f.scan;
  same = same_on (knows l) (knows m) (knows n) a.looks.same f.same;
  holds = f.holds;
}
ready_later l m n (Some slot) a f = takes_later l m n slot a.looks f

-- ---- a turn

pub has_run : (l m n : SlotSeat) (slot limit : ℕ) (slice : RunSlice) → TakesByJob l slot m → Runs (knows m) slot limit slice (knows n) → HasRun (knows l) slot limit slice.rows (knows n)
has_run l m n slot limit slice t r = record {
  inside = t.noted.inside;
  found = record { before = t.found.before; after = t.found.after; found = r.found ∙ t.found.found };
  before = r.before;
  after = r.after;
  stopped = r.stopped;
  takes = r.takes;
  most = r.most;
  why = r.why;
  ends = r.ends;
  handed = r.handed ∙ (ap (λ xs. xs ++ handing slot r.before r.after slice.word ∷ []) t.same.handed ∙ ap (λ (w : ℕ). (knows l).handed ++ handing slot r.before r.after w ∷ []) r.word);
  passes = r.passes ∙ t.same.passes;
}
