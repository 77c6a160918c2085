-- The words of a slot. All of this is this project's own.
use Rattle.std.specs.Prelude.{◌≡◌, ◌<◌, ◌↔◌, ℕ, Bool, true}

-- how many slots there are
abbrev pub slots : ℕ
slots = 256

-- no client has the slot
abbrev pub free : ℕ
free = 0

-- the session is at home and waits for its client
abbrev pub waiting : ℕ
waiting = 1

-- the session is at home and may go on
abbrev pub ready : ℕ
ready = 2

-- the session is at home and has ended
abbrev pub ended : ℕ
ended = 3

-- the session is out with its client
abbrev pub with_client : ℕ
with_client = 4

-- the session is out with a worker
abbrev pub with_worker : ℕ
with_worker = 5

-- The word of a session at home is waiting, ready or ended, which lie between the others; ended exactly where it is
-- over.
abbrev pub IsWordOf : Bool → ℕ → Type 0
IsWordOf over word = (free < word) × (word < with_client) × ((over ≡ true) ↔ (word ≡ ended))
