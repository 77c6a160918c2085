-- The whole image: what is loaded has the bytes as its image, and the image of a program is loaded.
use Rattle.std.proofs.Common.{◌≡◌, ℕ, ◌^◌, ◌<◌, ◌≤◌, false, cond, List, [], ◌∷◌, ◌++◌, length, Result, Ok, Err, refl, sym, ap, subst, ◌∙◌, append_assoc, arith, eqb, Some, None, Option}
use Rattle.std.proofs.lemmas.List.{append-nil}
use Rattle.std.specs.Prelude.{IfOk, IsOk, codes}
use Rattle.std.specs.List.{flat_map, AllByRecursion}
use Rattle.spec_avro.specs.declared.mismatch.Mismatch.{Mismatch}
use Rattle.spec_machine.specs.declared.entry.Entry.{Entry}
use Rattle.spec_machine.specs.declared.entry.Entry.TheVariants as entries
use Rattle.spec_machine.specs.declared.instr.Instr.{Instr}
use Rattle.spec_machine.specs.declared.instr.Instr.TheVariants as op
use Rattle.spec_machine.specs.declared.limits.TheConstants.{MOST_CONSTANT_BYTES, MOST_ENTRIES, MOST_TABLES}
use Rattle.spec_machine.specs.declared.program_error.ProgramError.{ProgramError}
use Rattle.spec_machine.specs.declared.sizes.Sizes.{Sizes}
use Rattle.spec_machine.specs.Judging.{first_error, judged}
use Rattle.spec_machine.specs.Lengths.{total_length}
use Rattle.spec_machine.specs.Program.{Program}
use Rattle.spec_machine.specs.Range.{EntryIsInRange, InstrIsInRange, IsAddress, IsProgram, MissIsInRange, sizes_of}
use Rattle.isa.proofs.Judged.{complete}
use Rattle.avro_loader.specs.ImageReading.{◌>>=◌, Read, address_at, ended, opened, place}
use Rattle.spec_machine.specs.ImageSpelling.{most_instrs, long, address, version_byte}
use Rattle.avro_loader.specs.declared.image_fault.ImageFault.{ImageFault}
use Rattle.avro_loader.specs.declared.image_fault.ImageFault.TheVariants.{NoCode, OutOfRange}
use Rattle.avro_loader.specs.declared.version.Format.{Format}
use Rattle.spec_machine.specs.declared.version.Version.{Version}
use Rattle.spec_machine.specs.declared.version.Version.TheVariants.{One, Two}
use Rattle.avro_loader.proofs.Opened.{ended_ok, opened_again, opened_taken}
use Rattle.avro_loader.proofs.Spelled.{address_limit, addresses}
use Rattle.avro_loader.proofs.Steps.{bind_ok, ok_is, unless}
use Rattle.avro_loader.proofs.Taking.{IsBytes, Takes, Takes-then, Reads}
use Rattle.spec_machine.specs.Image.{section, First, IsImage, Second, constant, entry, image, instr, miss, sections}
use Rattle.avro_loader.specs.Reading.{count_at, section_at, things_at, Gives, code_at, constants_at, constants_section_at, entry_at, instr_at, miss_at}
use Rattle.avro_loader.specs.declared.fault.LoadError.{LoadError}
use Rattle.avro_loader.specs.Loading.{Starts, from_wrong, in_range, jumps_at, loaded, loaded_as, maps_at, misses_at, sections_at, sections_read}
use Rattle.avro_loader.proofs.Fields.{FitSection, count_again, count_takes, section_reads, things_again, things_take}
use Rattle.avro_loader.proofs.Things.{EntryFits, InstrFits, MissFits, constants_again, constants_take, entries_read, instrs_read, misses_read}
use Rattle.avro_bytes.specs.Laws.Plain.{weaker}

-- ---- sections

small : (v : Version) → most_instrs v < 2 ^ 32
small One = omega arith
small Two = omega arith

pub record FitConstants (xs : List (List ℕ)) : Type 0 where
  pub few : length xs ≤ MOST_TABLES
  pub some : AllByRecursion (λ x. 0 < length x) xs
  pub short : total_length xs ≤ MOST_CONSTANT_BYTES

pub record FitCode (v : Version) (xs : List Instr) : Type 0 where
  pub some : 0 < length xs
  pub few : length xs ≤ most_instrs v
  pub each : AllByRecursion (InstrFits v) xs

module _ (f : Format) where
  abbrev v : Version
  v = f.version

  abbrev Addresses : ℕ → Type 0
  Addresses a = a < address_limit v

  maps_read : Reads (maps_at f) (section (section entry)) (FitSection MOST_TABLES (FitSection MOST_ENTRIES EntryFits))
  maps_read = section_reads f MOST_TABLES (section_at f MOST_ENTRIES (entry_at f)) (section entry) (FitSection MOST_ENTRIES EntryFits)
      (section_reads f MOST_ENTRIES (entry_at f) entry EntryFits (entries_read f) (omega arith)) (omega arith)

  jumps_read : Reads (jumps_at f) (section (section (address v))) (FitSection MOST_TABLES (FitSection MOST_ENTRIES Addresses))
  jumps_read = section_reads f MOST_TABLES (section_at f MOST_ENTRIES (address_at f)) (section (address v)) (FitSection MOST_ENTRIES Addresses)
      (section_reads f MOST_ENTRIES (address_at f) (address v) Addresses (addresses v) (omega arith)) (omega arith)

  misses_are_read : Reads (misses_at f) (section miss) (FitSection MOST_TABLES MissFits)
  misses_are_read = section_reads f MOST_TABLES (miss_at f) miss MissFits (misses_read f) (omega arith)

  constants_taken : (bytes : List ℕ) (x : List (List ℕ) × List ℕ) → IsBytes bytes → constants_section_at f bytes ≡ Ok x → Takes bytes (section constant x.0) x.1
  unfolding constants_section_at
  constants_taken bytes x fits e =
      let n = bind_ok (count_at f MOST_TABLES bytes) (λ n. constants_at f MOST_CONSTANT_BYTES n.0 n.1) x e in
      let first = count_takes f MOST_TABLES bytes n.0 fits n.1 in
      let second = constants_take f MOST_CONSTANT_BYTES n.0.0 n.0.1 x first.0.rest_fits n.2 in
      let both = Takes-then bytes (long n.0.0) n.0.1 (flat_map constant x.0) x.1 first.0 second.0 in
      subst (λ (k : ℕ). Takes bytes (long k ++ flat_map constant x.0) x.1) (sym second.1) both

  constants_are_read : (xs : List (List ℕ)) (rest : List ℕ) → FitConstants xs → constants_section_at f (section constant xs ++ rest) ≡ Ok (xs, rest)
  unfolding constants_section_at
  constants_are_read xs rest fits =
      ap (λ (bytes : List ℕ). count_at f MOST_TABLES bytes >>= λ n. constants_at f MOST_CONSTANT_BYTES n.0 n.1) (append_assoc (long (length xs)) (flat_map constant xs) rest)
      ∙ ap (λ (r : Read ℕ). r >>= λ n. constants_at f MOST_CONSTANT_BYTES n.0 n.1) (count_again f MOST_TABLES (length xs) (flat_map constant xs ++ rest) fits.few (omega arith))
      ∙ constants_again f MOST_CONSTANT_BYTES xs rest fits.some fits.short (omega arith)

  code_taken : (bytes : List ℕ) (x : List Instr × List ℕ) → IsBytes bytes → code_at f bytes ≡ Ok x → Takes bytes (section (instr v) x.0) x.1 × (length x.0 ≤ most_instrs v)
  unfolding code_at
  code_taken bytes x fits e =
      let n = bind_ok (count_at f (most_instrs v) bytes) (λ n. cond (eqb n.0 0) (Err NoCode) (things_at (instr_at f) n.0 n.1)) x e in
      let some = unless (eqb n.0.0 0) NoCode (things_at (instr_at f) n.0.0 n.0.1) x n.2 in
      let first = count_takes f (most_instrs v) bytes n.0 fits n.1 in
      let second = things_take (instr_at f) (instr v) (InstrFits v) (instrs_read f) n.0.0 n.0.1 x first.0.rest_fits some.1 in
      let both = Takes-then bytes (long n.0.0) n.0.1 (flat_map (instr v) x.0) x.1 first.0 second.0 in
      (subst (λ (k : ℕ). Takes bytes (long k ++ flat_map (instr v) x.0) x.1) (sym second.1) both, omega (arith, second.1, first.1))

  not_none : (n : ℕ) → 0 < n → eqb n 0 ≡ false
  not_none n h = grind arith

  code_is_read : (xs : List Instr) (rest : List ℕ) → FitCode v xs → code_at f (section (instr v) xs ++ rest) ≡ Ok (xs, rest)
  unfolding code_at
  code_is_read xs rest fits =
      ap (λ (bytes : List ℕ). count_at f (most_instrs v) bytes >>= λ n. cond (eqb n.0 0) (Err NoCode) (things_at (instr_at f) n.0 n.1)) (append_assoc (long (length xs)) (flat_map (instr v) xs) rest)
      ∙ ap (λ (r : Read ℕ). r >>= λ n. cond (eqb n.0 0) (Err NoCode) (things_at (instr_at f) n.0 n.1)) (count_again f (most_instrs v) (length xs) (flat_map (instr v) xs ++ rest) fits.few (small v))
      ∙ ap (λ b. cond b (Err NoCode) (things_at (instr_at f) (length xs) (flat_map (instr v) xs ++ rest))) (not_none (length xs) fits.some)
      ∙ things_again (instr_at f) (instr v) (InstrFits v) (instrs_read f) xs rest fits.each

-- ---- all sections

pub record Fits (v : Version) (P : Program) : Type 0 where
  pub constants : FitConstants P.constants
  pub maps : FitSection MOST_TABLES (FitSection MOST_ENTRIES EntryFits) P.maps
  pub jumps : FitSection MOST_TABLES (FitSection MOST_ENTRIES (λ a. a < address_limit v)) P.jumps
  pub misses : FitSection MOST_TABLES MissFits P.misses
  pub code : FitCode v P.code

module _ (f : Format) where
  sections_taken : (bytes : List ℕ) (x : (Program × Starts) × List ℕ) → IsBytes bytes → sections_at f bytes ≡ Ok x
      → Takes bytes (sections f.version x.0.0) x.1 × (length x.0.0.code ≤ most_instrs f.version)
  unfolding sections_at
  sections_taken bytes x fits e =
      let c = bind_ok (constants_section_at f bytes) (λ cs. maps_at f cs.1 >>= λ ms. jumps_at f ms.1 >>= λ js. misses_at f js.1 >>= λ is. code_at f is.1 >>= λ code. Ok (sections_read cs ms js is code)) x e in
      let m = bind_ok (maps_at f c.0.1) (λ ms. jumps_at f ms.1 >>= λ js. misses_at f js.1 >>= λ is. code_at f is.1 >>= λ code. Ok (sections_read c.0 ms js is code)) x c.2 in
      let j = bind_ok (jumps_at f m.0.1) (λ js. misses_at f js.1 >>= λ is. code_at f is.1 >>= λ code. Ok (sections_read c.0 m.0 js is code)) x m.2 in
      let i = bind_ok (misses_at f j.0.1) (λ is. code_at f is.1 >>= λ code. Ok (sections_read c.0 m.0 j.0 is code)) x j.2 in
      let k = bind_ok (code_at f i.0.1) (λ code. Ok (sections_read c.0 m.0 j.0 i.0 code)) x i.2 in
      let t1 = constants_taken f bytes c.0 fits c.1 in
      let r2 = maps_read f in
      let t2 = r2.takes c.0.1 m.0 t1.rest_fits m.1 in
      let r3 = jumps_read f in
      let t3 = r3.takes m.0.1 j.0 t2.rest_fits j.1 in
      let r4 = misses_are_read f in
      let t4 = r4.takes j.0.1 i.0 t3.rest_fits i.1 in
      let t5 = code_taken f i.0.1 k.0 t4.rest_fits k.1 in
      let e5 = section (instr f.version) k.0.0 in
      let e4 = section miss i.0.0 ++ e5 in
      let e3 = section (section (address f.version)) j.0.0 ++ e4 in
      let e2 = section (section entry) m.0.0 ++ e3 in
      let p4 = Takes-then j.0.1 (section miss i.0.0) i.0.1 e5 k.0.1 t4 t5.0 in
      let p3 = Takes-then m.0.1 (section (section (address f.version)) j.0.0) j.0.1 e4 k.0.1 t3 p4 in
      let p2 = Takes-then c.0.1 (section (section entry) m.0.0) m.0.1 e3 k.0.1 t2 p3 in
      let p1 = Takes-then bytes (section constant c.0.0) c.0.1 e2 k.0.1 t1 p2 in
      subst (λ (y : (Program × Starts) × List ℕ). Takes bytes (sections f.version y.0.0) y.1 × (length y.0.0.code ≤ most_instrs f.version)) (ok_is (sections_read c.0 m.0 j.0 i.0 k.0) x k.2) (p1, t5.1)

  sections_again : (P : Program) → Fits f.version P → (starts : Starts) × (sections_at f (sections f.version P) ≡ Ok ((P, starts), []))
  unfolding sections_at
  sections_again P fits =
      let s5 = section (instr f.version) P.code in
      let s4 = section miss P.misses ++ s5 in
      let s3 = section (section (address f.version)) P.jumps ++ s4 in
      let s2 = section (section entry) P.maps ++ s3 in
      let r2 = maps_read f in
      let r3 = jumps_read f in
      let r4 = misses_are_read f in
      let c = constants_are_read f P.constants s2 fits.constants in
      let m = r2.again P.maps s3 fits.maps in
      let j = r3.again P.jumps s4 fits.jumps in
      let i = r4.again P.misses s5 fits.misses in
      let k : code_at f s5 ≡ Ok (P.code, []) = ap (code_at f) (sym (append-nil s5)) ∙ code_is_read f P.code [] fits.code in (
        record { maps = s2; jumps = s3; misses = s4; code = s5 },
        ap (λ (r : Read (List (List ℕ))). r >>= λ cs. maps_at f cs.1 >>= λ ms. jumps_at f ms.1 >>= λ js. misses_at f js.1 >>= λ is. code_at f is.1 >>= λ code. Ok (sections_read cs ms js is code)) c
            ∙ ap (λ (r : Read (List (List Entry))). r >>= λ ms. jumps_at f ms.1 >>= λ js. misses_at f js.1 >>= λ is. code_at f is.1 >>= λ code. Ok (sections_read (P.constants, s2) ms js is code)) m
            ∙ ap (λ (r : Read (List (List ℕ))). r >>= λ js. misses_at f js.1 >>= λ is. code_at f is.1 >>= λ code. Ok (sections_read (P.constants, s2) (P.maps, s3) js is code)) j
            ∙ ap (λ (r : Read (List Mismatch)). r >>= λ is. code_at f is.1 >>= λ code. Ok (sections_read (P.constants, s2) (P.maps, s3) (P.jumps, s4) is code)) i
            ∙ ap (λ (r : Read (List Instr)). r >>= λ code. Ok (sections_read (P.constants, s2) (P.maps, s3) (P.jumps, s4) (P.misses, s5) code)) k,
      )

-- ---- what is loaded

abbrev judged_by : Program → Option ProgramError → Result Program ProgramError
judged_by P o = elim o [ Some e ↦ Err e | None ↦ Ok P ]

in_range_ok : (f : Format) (s : Starts) (Q P : Program) (o : Option ProgramError) → in_range f s (judged_by Q o) ≡ Ok P → Q ≡ P
in_range_ok f s Q P None e = ok_is Q P e
in_range_ok f s Q P (Some wrong) e =
    let b = bind_ok (from_wrong f s wrong) (λ left. Err (OutOfRange (place f left))) P e in
    let clash : Err (OutOfRange (place f b.0)) ≡ Ok P = b.2 in
    absurd cc

abbrev whole : Format → (Program × Starts) × List ℕ → Result Program ImageFault
whole f found = ended f found.1 >>= λ nothing. in_range f found.0.1 (judged found.0.0)

pub record Loads (f : Format) (bytes : List ℕ) (P : Program) : Type 0 where
  pub bytes_are : bytes ≡ sections f.version P
  pub few : length P.code ≤ most_instrs f.version

loaded_as_taken : (f : Format) (bytes : List ℕ) (P : Program) → IsBytes bytes → loaded_as f bytes ≡ Ok P → Loads f bytes P
unfolding loaded_as
loaded_as_taken f bytes P fits e =
    let a = bind_ok (sections_at f bytes) (whole f) P e in
    let w = bind_ok (ended f a.0.1) (λ nothing. in_range f a.0.0.1 (judged a.0.0.0)) P a.2 in
    let t = sections_taken f bytes a.0 fits a.1 in
    let nothing : a.0.1 ≡ [] = ended_ok f a.0.1 w.1 in
    let same : a.0.0.0 ≡ P = in_range_ok f a.0.0.1 a.0.0.0 P (first_error a.0.0.0) w.2 in
    let found : Loads f bytes a.0.0.0 = record {
      bytes_are = t.0.parts ∙ ap (λ (r : List ℕ). sections f.version a.0.0.0 ++ r) nothing ∙ append-nil (sections f.version a.0.0.0);
      few = t.1;
    } in
    subst (Loads f bytes) same found

loaded_as_again : (f : Format) (P : Program) → IsProgram P → Fits f.version P → loaded_as f (sections f.version P) ≡ Ok P
unfolding loaded_as
loaded_as_again f P h fits =
    let s = sections_again f P fits in
    ap (λ (r : Read (Program × Starts)). r >>= whole f) s.1
    ∙ ap (λ (o : Option ProgramError). in_range f s.0 (judged_by P o)) (complete P h)

-- ---- what has an image

tables_fit : {A : Type 0} (Q F : A → Type 0) → ((x : A) → Q x → F x) → (lists : List (List A)) → AllByRecursion (λ list. length list ≤ MOST_ENTRIES) lists → AllByRecursion (AllByRecursion Q) lists
    → AllByRecursion (FitSection MOST_ENTRIES F) lists
tables_fit Q F implies [] few h = tt
tables_fit Q F implies (list ∷ lists) few h = (record { few = few.0; each = weaker Q F implies list h.0 }, tables_fit Q F implies lists few.1 h.1)

-- how many there may be of what operands name
record AreFew (v : Version) (n : Sizes) : Type 0 where
  code : n.code ≤ most_instrs v
  constants : n.constants ≤ MOST_TABLES
  maps : n.maps ≤ MOST_TABLES
  jumps : n.jumps ≤ MOST_TABLES
  misses : n.misses ≤ MOST_TABLES

address_fits : (v : Version) (n : Sizes) → AreFew v n → (a : ℕ) → IsAddress n a → a < address_limit v
address_fits One n few a h = omega (arith, h, few.code)
address_fits Two n few a h = omega (arith, h, few.code)

entry_fits : (v : Version) (n : Sizes) → AreFew v n → (e : Entry) → EntryIsInRange n e → EntryFits e
entry_fits v n few (entries.Position i) h = omega (arith, h)
entry_fits v n few (entries.Miss m) h = omega (arith, h, few.misses)

miss_fits : (m : Mismatch) → MissIsInRange m → MissFits m
miss_fits m h = record { writer = omega (arith, h.writer); reader = omega (arith, h.reader) }

instr_fits : (v : Version) (n : Sizes) → AreFew v n → (i : Instr) → InstrIsInRange n i → InstrFits v i
instr_fits v n few (op.BytesText m) h = omega (arith, h, few.misses)
instr_fits v n few (op.Fixed size) h = omega (arith, h)
instr_fits v n few (op.Enum t) h = omega (arith, h, few.maps)
instr_fits v n few (op.SkipFixed size) h = omega (arith, h)
instr_fits v n few (op.SkipEnum many) h = omega (arith, h)
instr_fits v n few (op.Put c) h = omega (arith, h, few.constants)
instr_fits v n few (op.Record k) h = omega (arith, h)
instr_fits v n few (op.Slot j) h = omega (arith, h)
instr_fits v n few (op.Next a) h = address_fits v n few a h
instr_fits v n few (op.SkipNext a) h = address_fits v n few a h
instr_fits v n few (op.Branch t) h = omega (arith, h, few.jumps)
instr_fits v n few (op.Miss m) h = omega (arith, h, few.misses)
instr_fits v n few (op.Call a) h = address_fits v n few a h
instr_fits v n few (op.Jump a) h = address_fits v n few a h
instr_fits v n few _ h = refl

program_fits : (v : Version) (P : Program) → IsProgram P → length P.code ≤ most_instrs v → Fits v P
program_fits v P h few =
    let n = sizes_of P in
    let w = h.within in
    let all : AreFew v n = record { code = few; constants = w.constants; maps = w.maps.many; jumps = w.jumps.many; misses = w.misses } in
    record {
      constants = record { few = w.constants; some = h.constants; short = w.bytes };
      maps = record { few = w.maps.many; each = tables_fit (EntryIsInRange n) EntryFits (entry_fits v n all) P.maps w.maps.each h.entries };
      jumps = record { few = w.jumps.many; each = tables_fit (IsAddress n) (λ a. a < address_limit v) (address_fits v n all) P.jumps w.jumps.each h.addresses };
      misses = record { few = w.misses; each = weaker MissIsInRange MissFits miss_fits P.misses h.misses };
      code = record { some = h.some; few = few; each = weaker (InstrIsInRange n) (InstrFits v) (instr_fits v n all) P.code h.instrs };
    }

-- ---- the two laws

abbrev with_len : ℕ → Version × List ℕ → Result Program ImageFault
with_len len version = loaded_as (record { version = version.0; len = len }) version.1

image_is : (v : Version) (P : Program) (bytes : List ℕ) → bytes ≡ image v P → length P.code ≤ most_instrs v → IsImage P bytes
image_is One P bytes e few = subst (IsImage P) (sym e) (First few)
image_is Two P bytes e few = subst (IsImage P) (sym e) Second

loaded_taken : (bytes : List ℕ) (P : Program) → IsBytes bytes → loaded bytes ≡ Ok P → IsImage P bytes
unfolding loaded
loaded_taken bytes P fits e =
    let a = bind_ok (opened bytes) (with_len (length bytes)) P e in
    let t = opened_taken bytes a.0 fits a.1 in
    let l = loaded_as_taken (record { version = a.0.0; len = length bytes }) a.0.1 P t.rest_fits a.2 in
    image_is a.0.0 P bytes (t.parts ∙ ap (λ (r : List ℕ). (codes "AVRP" ++ (version_byte a.0.0 ∷ [])) ++ r) l.bytes_are) l.few

image_again : (v : Version) (P : Program) → IsProgram P → length P.code ≤ most_instrs v → loaded (image v P) ≡ Ok P
unfolding loaded
image_again v P h few =
    ap (λ (r : Read Version). r >>= with_len (length (image v P))) (opened_again v (sections v P))
    ∙ loaded_as_again (record { version = v; len = length (image v P) }) P h (program_fits v P h few)

loaded_again : (P : Program) → IsProgram P → (bytes : List ℕ) → IsImage P bytes → loaded bytes ≡ Ok P
loaded_again P h bytes Second = image_again Two P h h.within.code
loaded_again P h bytes (First few) = image_again One P h few

pub is_found : (bytes : List ℕ) (r : Result Program LoadError) → IsBytes bytes → Gives (λ P. P) r (loaded bytes) → IfOk r (λ P. IsImage P bytes)
is_found bytes (Ok P) fits given = loaded_taken bytes P fits given
is_found bytes (Err e) fits given = tt

pub is_only : (bytes : List ℕ) (r : Result Program LoadError) → Gives (λ P. P) r (loaded bytes) → (P : Program) → IsProgram P → IsImage P bytes → Gives (λ P. P) r (Ok P)
is_only bytes r given P h is = subst (λ (read : Result Program ImageFault). Gives (λ P. P) r read) (loaded_again P h bytes is) given

pub one_program : (P Q : Program) (bytes : List ℕ) → IsProgram P → IsProgram Q → IsImage P bytes → IsImage Q bytes → P ≡ Q
one_program P Q bytes hP hQ iP iQ = ok_is P Q (sym (loaded_again P hP bytes iP) ∙ loaded_again Q hQ bytes iQ)

-- what is loaded has a head
pub head_of : (bytes : List ℕ) (P : Program) → loaded bytes ≡ Ok P → IsOk (opened bytes)
unfolding loaded
head_of bytes P e =
    let a = bind_ok (opened bytes) (with_len (length bytes)) P e in
    rw a.1 refl
