-- What is kept as commands, publications and sessions are added.
use Rattle.std.proofs.Common.{◌≡◌, ℕ, zero, suc, Bool, true, false, List, [], ◌∷◌, ◌++◌, Option, Some, None, refl, sym, ap, ◌∙◌, subst, append-nil}
use Rattle.std.specs.Prelude.{◌==◌, ◌&&◌, Result, Ok, Err, if◌then◌else◌, is_some, find, slice_get, OnOk, OnErr, is_ok, option_map}
use Rattle.std.specs.List.{AllByRecursion}
use Rattle.std.proofs.lemmas.Bool.{eqb-true}
use Rattle.spec_schema.specs.Schema.{Declaration}
use Rattle.spec_machine.specs.Program.{Program}
use Rattle.spec_schema.specs.declared.schema_error.SchemaError.{SchemaError}
use Rattle.spec_registry.specs.Accepting.{declaration_of, registered, registry_after, taken, taken_all, with_version}
use Rattle.spec_registry.specs.Command.{Command, RegisterCommand}
use Rattle.spec_registry.specs.Lists.{Lists, id_of, no_lists, versions_of, with_text, numbered}
use Rattle.spec_machine.specs.Code.{code_of}
use Rattle.session_core.specs.SessionEnding.{SessionLeadsToOutcome}
use Rattle.session_core.specs.Ending.{EndsWithOutcome}
use Rattle.session_core.specs.Kept.{IsKept, IsPublication, IsSession}
use Rattle.spec_sessions.specs.World.{Held, Publication, World, is_of, program_at, schema_after}
use Rattle.session_core.specs.World.{IsCodeOf}

-- ---- schemas stay

abbrev pub Longer : List Declaration → List Declaration → Type 0
Longer one other = (more : List Declaration) × (other ≡ one ++ more)

longer-if : (b : Bool) (one more : List Declaration) → Longer one (if b then one else one ++ more)
longer-if true one more = ([], sym (append-nil one))
longer-if false one more = (more, refl)

registered-longer : (b : Bool) (lists : Lists) (subject : List ℕ) (schema : Declaration) → Longer lists.schemas (if b then lists else with_version lists subject schema).schemas
registered-longer true lists subject schema = ([], sym (append-nil lists.schemas))
registered-longer false lists subject schema = longer-if (is_some (id_of schema.text lists.schemas)) lists.schemas (schema ∷ [])

declared-longer : (lists : Lists) (subject : List ℕ) (declared : Result Declaration SchemaError) → Longer lists.schemas (registered lists subject declared).schemas
declared-longer lists subject (Ok schema) = registered-longer (is_some (with_text schema.text lists.schemas (versions_of subject lists.entries))) lists subject schema
declared-longer lists subject (Err e) = ([], sym (append-nil lists.schemas))

taken-longer : (lists : Lists) (c : Command) → Longer lists.schemas (taken lists c).schemas
taken-longer lists (RegisterCommand subject text) = declared-longer lists subject (declaration_of text)
taken-longer lists c = ([], sym (append-nil lists.schemas))

taken-all-then : (lists : Lists) (cs : List Command) (c : Command) → taken_all lists (cs ++ c ∷ []) ≡ taken (taken_all lists cs) c
taken-all-then lists [] c = refl
taken-all-then lists (d ∷ cs) c = taken-all-then (taken lists d) cs c

get-longer : (xs ys : List Declaration) (n : ℕ) (d : Declaration) → slice_get xs n ≡ Some d → slice_get (xs ++ ys) n ≡ Some d
get-longer [] ys n d e = absurd (cc)
get-longer (x ∷ xs) ys zero d e = e
get-longer (x ∷ xs) ys (suc n) d e = get-longer xs ys n d e

numbered-longer : (xs ys : List Declaration) (n : ℕ) (d : Declaration) → numbered xs n ≡ Some d → numbered (xs ++ ys) n ≡ Some d
numbered-longer xs ys zero d e = absurd (cc)
numbered-longer xs ys (suc n) d e = get-longer xs ys n d e

schema-stays : (cs : List Command) (c : Command) (id : ℕ) (d : Declaration) → schema_after cs id ≡ Some d → schema_after (cs ++ c ∷ []) id ≡ Some d
schema-stays cs c id d e =
    let longer = taken-longer (registry_after cs) c in
    let schemas = ap (λ (l : Lists). l.schemas) (taken-all-then no_lists cs c) ∙ longer.1 in
    ap (λ (xs : List Declaration). numbered xs id) schemas ∙ numbered-longer (registry_after cs).schemas longer.0 id d e

code-stays : (cs : List Command) (c : Command) (w r : ℕ) (P : Program) → IsCodeOf cs w r P → IsCodeOf (cs ++ c ∷ []) w r P
code-stays cs c w r P is = record {
  written = is.written;
  read = is.read;
  writer_is = schema-stays cs c w is.written is.writer_is;
  reader_is = schema-stays cs c r is.read is.reader_is;
  code = is.code;
}

publications-stay : (cs : List Command) (c : Command) (ps : List Publication) → AllByRecursion (IsPublication cs) ps → AllByRecursion (IsPublication (cs ++ c ∷ [])) ps
publications-stay cs c [] all = all
publications-stay cs c (p ∷ ps) all = (code-stays cs c p.writer p.reader p.program all.0, publications-stay cs c ps all.1)

sessions-stay : (cs : List Command) (c : Command) (hs : List Held) → AllByRecursion (IsSession cs) hs → AllByRecursion (IsSession (cs ++ c ∷ [])) hs
sessions-stay cs c [] all = all
sessions-stay cs c (h ∷ hs) all = (code-stays cs c h.writer h.reader h.session.program all.0, sessions-stay cs c hs all.1)

pub kept-by-command : (world : World) (c : Command) → IsKept world → IsKept (record world { commands = world.commands ++ c ∷ [] })
kept-by-command world c kept = record {
  publications = publications-stay world.commands c world.published kept.publications;
  sessions = sessions-stay world.commands c world.sessions kept.sessions;
}

-- ---- one more

all-and-one : {X : Type 0} (P : X → Type 0) (xs : List X) (x : X) → AllByRecursion P xs → P x → AllByRecursion P (xs ++ x ∷ [])
all-and-one P [] x all p = (p, tt)
all-and-one P (y ∷ ys) x all p = (all.0, all-and-one P ys x all.1 p)

pub kept-by-session : (world : World) (h : Held) → IsKept world → IsSession world.commands h → IsKept (record world { sessions = world.sessions ++ h ∷ [] })
kept-by-session world h kept is = record { publications = kept.publications; sessions = all-and-one (IsSession world.commands) world.sessions h kept.sessions is }

-- ---- what is found

and-first : (a b : Bool) → (a && b) ≡ true → a ≡ true
and-first true b e = refl
and-first false b e = absurd (cc)

and-second : (a b : Bool) → (a && b) ≡ true → b ≡ true
and-second true b e = e
and-second false b e = absurd (cc)

of-found : (b : Bool) (cs : List Command) (w r : ℕ) (p found : Publication) (ps : List Publication) → is_of w r p ≡ b → IsPublication cs p → (if b then Some p else find (is_of w r) ps) ≡ Some found
    → (find (is_of w r) ps ≡ Some found → IsCodeOf cs w r found.program) → IsCodeOf cs w r found.program
of-found true cs w r p found ps is all e later =
    let writer = eqb-true p.writer w (and-first (p.writer == w) (p.reader == r) is) in
    let reader = eqb-true p.reader r (and-second (p.writer == w) (p.reader == r) is) in
    let here = subst (λ (x : ℕ). IsCodeOf cs x r p.program) writer (subst (λ (x : ℕ). IsCodeOf cs p.writer x p.program) reader all) in
    subst (λ (q : Publication). IsCodeOf cs w r q.program) (same_Some p found e) here
  where
    same_Some : (x y : Publication) → Some x ≡ Some y → x ≡ y
    same_Some x y e = cc
of-found false cs w r p found ps is all e later = later e

pub found-is-code : (cs : List Command) (w r : ℕ) (found : Publication) (ps : List Publication) → AllByRecursion (IsPublication cs) ps → find (is_of w r) ps ≡ Some found → IsCodeOf cs w r found.program
found-is-code cs w r found [] all e = absurd (cc)
found-is-code cs w r found (p ∷ ps) all e =
    of-found (is_of w r p) cs w r p found ps refl all.0 e (found-is-code cs w r found ps all.1)

-- ---- how a session ends

same_schema : (x y : Declaration) → Some x ≡ Some y → x ≡ y
same_schema x y e = cc

-- the code is that of the schemas that are found
pub code-of-found : (cs : List Command) (w r : ℕ) (P : Program) (one other : Declaration) → IsCodeOf cs w r P → schema_after cs w ≡ Some one → schema_after cs r ≡ Some other → code_of one.nodes other.nodes ≡ Some P
code-of-found cs w r P one other is a b =
    subst (λ (x : Declaration). code_of x.nodes other.nodes ≡ Some P) (same_schema is.written one (sym is.writer_is ∙ a))
    (subst (λ (x : Declaration). code_of is.written.nodes x.nodes ≡ Some P) (same_schema is.read other (sym is.reader_is ∙ b)) is.code)

pub ends-with-outcome : (world : World) (held : Held) (one other : Declaration) → schema_after world.commands held.writer ≡ Some one → schema_after world.commands held.reader ≡ Some other → code_of one.nodes other.nodes ≡ Some held.session.program
    → SessionLeadsToOutcome one.nodes other.nodes held.session → EndsWithOutcome world held
ends-with-outcome world held one other w r code leads = record {
  pair = record { written = one; read = other; writer_is = w; reader_is = r; code = code };
  leads = leads;
}

-- ---- the registry's answer

pub kept-by-answer : {A E : Type 0} (world : World) (c : Command) (new : List Command) (result : Result A E) → OnOk result (new ≡ world.commands ++ c ∷ []) → OnErr result (new ≡ world.commands) → IsKept world → IsKept (record world { commands = new })
kept-by-answer world c new (Ok a) ok err kept = subst (λ (cs : List Command). IsKept (record world { commands = cs })) (sym ok) (kept-by-command world c kept)
kept-by-answer world c new (Err e) ok err kept = subst (λ (cs : List Command). IsKept (record world { commands = cs })) (sym err) kept

-- ---- a session that begins

pub kept-by-push : {A E : Type 0} (world : World) (h : Held) (new : List Held) (result : Result A E) → new ≡ (if is_ok result then world.sessions ++ h ∷ [] else world.sessions) → IsKept world → IsSession world.commands h → IsKept (record world { sessions = new })
kept-by-push world h new (Ok a) e kept is = subst (λ (hs : List Held). IsKept (record world { sessions = hs })) (sym e) (kept-by-session world h kept is)
kept-by-push world h new (Err x) e kept is = subst (λ (hs : List Held). IsKept (record world { sessions = hs })) (sym e) kept

-- the program that is found is the code of the pair
program-found : (cs : List Command) (w r : ℕ) (P : Program) (ps : List Publication) (found : Option Publication) → find (is_of w r) ps ≡ found → AllByRecursion (IsPublication cs) ps → Some P ≡ option_map (λ (p : Publication). p.program) found → IsCodeOf cs w r P
program-found cs w r P ps (Some p) f all e = subst (IsCodeOf cs w r) (same_program p.program P (sym e)) (found-is-code cs w r p ps all f)
  where
    same_program : (x y : Program) → Some x ≡ Some y → x ≡ y
    same_program x y e = cc
program-found cs w r P ps None f all e = absurd (cc)

pub found-here : (world : World) (w r : ℕ) (P : Program) → IsKept world → Some P ≡ program_at w r world → IsCodeOf world.commands w r P
found-here world w r P kept e = program-found world.commands w r P world.published (find (is_of w r) world.published) refl kept.publications e
