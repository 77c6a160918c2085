-- Code that writes a number, a boolean, a symbol, a content, or bytes of the program's own.
use Rattle.std.proofs.Common.{◌≡◌, ℕ, zero, suc, ◌+◌, ◌≤◌, ◌<◌, Bool, true, false, cond, List, [], ◌∷◌, ◌++◌, length, Option, Some, None, Ok, Err, refl, sym, ap, ◌∙◌, subst, arith, lit<, slice_get, pos}
use Rattle.std.specs.Prelude.{slice_index_or}
use Rattle.std.specs.Str.{is_utf8}
use Rattle.spec_avro.specs.declared.meter.Meter.{Meter}
use Rattle.spec_avro.specs.declared.malformed.MalformedKind.TheVariants.{BadEnum}
use Rattle.avro_bytes.specs.Blob.{content_at, fixed_at}
use Rattle.spec_decoding.specs.BooleanDecoding.{boolean_at}
use Rattle.spec_avro.specs.Boolean.{boolean_byte}
use Rattle.spec_decoding.specs.Decoding.{Decoding, Complete, ◌>>=◌ as ◌>>◌}
use Rattle.spec_avro.specs.Number.{int_limit, long_limit}
use Rattle.spec_decoding.specs.NumberDecoding.{number_at}
use Rattle.spec_decoding.specs.PositionDecoding.{position_at}
use Rattle.spec_avro.specs.Shortest.{shortest}
use Rattle.avro_bytes.specs.Text.{text_at}
use Rattle.spec_avro.specs.Written.{after_length}
use Rattle.avro_bytes.specs.Laws.Booleans.{boolean_sound}
use Rattle.avro_bytes.specs.Laws.Numbers.{number_some, number_sound}
use Rattle.avro_bytes.specs.Laws.Positions.{position_sound}
use Rattle.spec_avro.specs.Node.{Node}
use Rattle.avro_datum.specs.ItemDecoding.{Reader}
use Rattle.spec_avro.specs.declared.mismatch.Mismatch.{Mismatch}
use Rattle.spec_avro.specs.declared.mismatch.MismatchKind.TheVariants as kinds
use Rattle.spec_avro.specs.Options.{given}
use Rattle.spec_avro.specs.Resolution.{Resolved, ◌>>=◌, symbol_for}
use Rattle.spec_machine.specs.declared.entry.Entry.{Entry}
use Rattle.spec_machine.specs.declared.entry.Entry.TheVariants as entries
use Rattle.spec_machine.specs.declared.instr.Instr.{Instr}
use Rattle.spec_machine.specs.declared.instr.Instr.TheVariants as op
use Rattle.spec_machine.specs.Program.{Program}
use Rattle.spec_machine.specs.Row.{row}
use Rattle.spec_machine.specs.State.{Content, State, Store, add, has_current, meter_of, miss}
use Rattle.spec_machine.specs.Table.{added, prefixed, entered, fixed, if_current, moves, next, reads}
use Rattle.spec_machine.specs.Statements.{miss as why_not}
use Rattle.program_definition.specs.Stands.{AreEntries, IsEntry}
use Rattle.program_correctness.proofs.Buffers.{current_emptied}
use Rattle.program_correctness.proofs.Contents.{Anything, Check, OnlyText, OrMiss, Puts, checked, closed, move_of, unchecked}
use Rattle.program_correctness.proofs.Follow.{Follows, follows_so, reads_all, row_then}
use Rattle.program_correctness.proofs.Holding.{Becomes, becomes_after, becomes_so}
use Rattle.program_correctness.proofs.LookUps.{got}
use Rattle.program_correctness.proofs.Marks.{miss_is, stamp_add}
use Rattle.program_correctness.proofs.Moving.{Landed, content_follows, fixed_follows}
use Rattle.program_correctness.proofs.Plain.{between, meter, moving, plain_row, row_of_instr}
use Rattle.program_correctness.proofs.Stores.{IsFit, add_fits, add_frames, add_nothing, add_twice}
use Rattle.program_correctness.proofs.Writing.{Writes, Wrote, add_depth, add_ready}

module _ (P : Program) (p : List ℕ) (L : ℕ) where
  -- ---- numbers and booleans

  -- a row that reads a value and adds its bytes
  row_writes : {A : Type 0} (left pc : ℕ) (i : Instr) (reader : Reader A) (bytes : A → List ℕ) → slice_get P.code pc ≡ Some i → ((s : State) → row P p true i s ≡ if_current s.store.frames s (reads P p true s (reader s.pos (meter_of s)) (λ v to m. Some (next to (added (bytes v) s)))))
      → ((at to : ℕ) (m n : Meter) (v : A) → reader at m ≡ Complete v to n → (at ≤ to) × (m ≡ n)) → Writes P p L left 1 pc (pc + 1) reader (λ v. Ok (bytes v))
  row_writes left pc i reader bytes here row sound at u calls s ready =
      reads_all P p L 1 c0 (reader at (meter s u)) (λ v to m. Some (next to (added (bytes v) c0))) (Wrote P p L (pc + 1) calls s u (λ v. Ok (bytes v)))
      (row_of_instr P p c0 i refl here ∙ row c0 ∙ rw ready.current refl)
      (λ v to m e.
      let t = sound at to (meter s u) m v e in
      let same : u ≡ m.units = ap (λ (x : Meter). x.units) t.1 in
      record {
        new = between (pc + 1) to calls (add (bytes v) s) u;
        row_is = refl;
        is_such = (add (bytes v) s, ap (between (pc + 1) to calls (add (bytes v) s)) same, sym t.1 ∙ ap (meter s) same, omega (arith, same), refl);
        pays = omega (arith, t.0);
      })
    where
      c0 : State
      c0 = between pc at calls s u

  pub int_writes : (left pc : ℕ) → slice_get P.code pc ≡ Some op.Int → Writes P p L left 1 pc (pc + 1) (number_at int_limit p) (λ n. Ok (shortest n))
  int_writes left pc here = row_writes left pc op.Int (number_at int_limit p) shortest here (λ s. refl) (λ at to m n v e. let t = number_sound int_limit p at m v to n (lit< tt) e in (omega (arith, t.0.end), t.1))

  pub long_writes : (left pc : ℕ) → slice_get P.code pc ≡ Some op.Long → Writes P p L left 1 pc (pc + 1) (number_at long_limit p) (λ n. Ok (shortest n))
  long_writes left pc here = row_writes left pc op.Long (number_at long_limit p) shortest here (λ s. refl) (λ at to m n v e. let t = number_sound long_limit p at m v to n (lit< tt) e in (omega (arith, t.0.end), t.1))

  pub boolean_writes : (left pc : ℕ) → slice_get P.code pc ≡ Some op.Bool → Writes P p L left 1 pc (pc + 1) (boolean_at p) (λ b. Ok (boolean_byte b ∷ []))
  boolean_writes left pc here = row_writes left pc op.Bool (boolean_at p) (λ b. boolean_byte b ∷ []) here (λ s. refl) (λ at to m n v e. let t = boolean_sound p at m v to n e in (omega (arith, t.0.end), t.1))

  -- ---- symbols, by their entries

  record HasEntry (w r : ℕ) (reader : Option Node) (symbols : List (List ℕ)) (es : List Entry) (n : ℕ) : Type 0 where
    symbol : List ℕ
    entry : Entry
    symbol_there : slice_get symbols n ≡ Some symbol
    entry_there : slice_get es n ≡ Some entry
    is : IsEntry P w r (symbol_for reader symbol) entry

  has_entry : (w r : ℕ) (reader : Option Node) (symbols : List (List ℕ)) (es : List Entry) (n : ℕ) → AreEntries P w r reader symbols es → n < length symbols → HasEntry w r reader symbols es n
  has_entry w r reader [] es n are lt = absurd (omega arith)
  has_entry w r reader (symbol ∷ symbols) [] n are lt = absurd are
  has_entry w r reader (symbol ∷ symbols) (e ∷ es) zero are lt = record { symbol = symbol; entry = e; symbol_there = refl; entry_there = refl; is = are.0 }
  has_entry w r reader (symbol ∷ symbols) (e ∷ es) (suc n) are lt =
      let x = has_entry w r reader symbols es n are.1 (omega arith) in
      record { symbol = x.symbol; entry = x.entry; symbol_there = x.symbol_there; entry_there = x.entry_there; is = x.is }

  as_many : (w r : ℕ) (reader : Option Node) (symbols : List (List ℕ)) (es : List Entry) → AreEntries P w r reader symbols es → length es ≡ length symbols
  as_many w r reader [] [] are = refl
  as_many w r reader [] (e ∷ es) are = absurd are
  as_many w r reader (symbol ∷ symbols) [] are = absurd are
  as_many w r reader (symbol ∷ symbols) (e ∷ es) are = ap suc (as_many w r reader symbols es are.1)

  abbrev pub symbol_bytes : ℕ → ℕ → Option ℕ → Resolved (List ℕ)
  symbol_bytes w r o = given o (Err (why_not kinds.NoSymbol w r)) (λ m. Ok (shortest (pos m)))

  -- what an entry makes of a symbol
  entered_so : (w r pc to : ℕ) (o : Option ℕ) (entry : Entry) (calls : List ℕ) (s : Store) (at u : ℕ) → IsFit s → IsEntry P w r o entry → (t : Store) × (next to (entered entry (between pc at calls s u)) ≡ between (pc + 1) to calls t u) × Becomes P.misses (symbol_bytes w r o) s t
  entered_so w r pc to (Some n) entry calls s at u fit is = (add (shortest (pos n)) s, ap (λ (e : Entry). next to (entered e (between pc at calls s u))) is, refl)
  entered_so w r pc to None entry calls s at u fit is = (miss is.0 s, ap (λ (e : Entry). next to (entered e (between pc at calls s u))) is.1, (is.0, s.over, is.2, miss_is is.0 s fit))

  pub enum_writes : (left pc t w r : ℕ) (reader : Option Node) (symbols : List (List ℕ)) (es : List Entry) → slice_get P.code pc ≡ Some (op.Enum t) → slice_get P.maps t ≡ Some es → AreEntries P w r reader symbols es
      → (effect : ℕ → Resolved (List ℕ)) → ((i : ℕ) (symbol : List ℕ) → slice_get symbols i ≡ Some symbol → effect i ≡ symbol_bytes w r (symbol_for reader symbol)) → Writes P p L left 1 pc (pc + 1) (position_at BadEnum (length symbols) p) effect
  enum_writes left pc t w r reader symbols es here table are effect same at u calls s ready =
      reads_all P p L 1 c0 (position_at BadEnum (length symbols) p at (meter s u)) (λ i to m. Some (next to (entered (slice_index_or es i (entries.Position 0)) c0))) (Wrote P p L (pc + 1) calls s u effect)
      (row_of_instr P p c0 (op.Enum t) refl here ∙ rw (ready.current, got P.maps t _ es table, as_many w r reader symbols es are) refl)
      (λ n to m e.
      let b = position_sound BadEnum (length symbols) p at (meter s u) n to m e in
      let some = number_some _ _ b.0.bytes b.0.spelled.1 in
      let x = has_entry w r reader symbols es n are b.0.spelled.0 in
      let y = entered_so w r pc to (symbol_for reader x.symbol) x.entry calls s at u ready.fit x.is in
      let units : u ≡ m.units = ap (λ (x : Meter). x.units) b.1 in
      record {
        new = between (pc + 1) to calls y.0 u;
        row_is = ap (λ (e : Entry). Some (next to (entered e c0))) (got es n _ x.entry x.entry_there) ∙ ap Some y.1;
        is_such = (y.0, ap (between (pc + 1) to calls y.0) units, sym b.1 ∙ ap (meter s) units, omega (arith, units), becomes_so P.misses _ (effect n) s y.0 (sym (same n x.symbol x.symbol_there)) y.2);
        pays = omega (arith, b.0.end, some);
      })
    where
      c0 : State
      c0 = between pc at calls s u

  -- ---- bytes of the program's own, before others

  pub put_writes : {A : Type 0} (left k pc q c : ℕ) (x : List ℕ) (reader : Reader A) (effect : A → Resolved (List ℕ)) → slice_get P.code pc ≡ Some (op.Put c) → slice_get P.constants c ≡ Some x → Writes P p L left k (pc + 1) q reader effect → Writes P p L left (k + 1) pc q reader (λ a. effect a >>= λ y. Ok (x ++ y))
  put_writes left k pc q c x reader effect here is runs at u calls s ready =
      let depth = add_depth x left calls s ready in
      let t = add x s in
      let others = subst (λ (n : ℕ). Follows P p L k (between (pc + 1) at calls t u) (reader at (record { depth = n; units = u })) (Wrote P p L q calls t u effect)) depth (runs at u calls t (add_ready x left calls s ready)) in
      row_then P p L k (k + 1) (between pc at calls s u) (between (pc + 1) at calls t u) (reader at (meter s u)) (Wrote P p L q calls s u (λ a. effect a >>= λ y. Ok (x ++ y)))
      (row_of_instr P p (between pc at calls s u) (op.Put c) refl here ∙ rw (ready.current, got P.constants c _ x is) refl)
      (follows_so P p L k k (between (pc + 1) at calls t u) (reader at (meter s u)) (Wrote P p L q calls t u effect) (Wrote P p L q calls s u (λ a. effect a >>= λ y. Ok (x ++ y))) (omega arith) others
      (λ a to m d g h. (h.0, h.1, h.2 ∙ ap (λ (n : ℕ). record { depth = n; units = m.units }) depth, h.3, becomes_after P.misses x (effect a) s h.0 ready.fit ready.current h.4)))
      (omega arith)

  -- ---- contents

  abbrev Fits : Store → Type 0
  Fits s = IsFit s × (has_current s.frames ≡ true)

  adds : Puts add Fits
  adds = record { none = λ s f. add_nothing s f.0; twice = λ x y s f. add_twice x y s f.0 f.1; keeps = λ x s f. (add_fits x s f.0 f.1, add_frames has_current x s f.0 f.1 current_emptied ∙ f.1) }

  -- where the store is what comes of the content
  landed : (pc u : ℕ) (calls : List ℕ) (s : Store) (effect : List ℕ → Resolved (List ℕ)) (t : Store) (x : List ℕ) (to : ℕ) (m : Meter) (d : State) → (d ≡ between (pc + 1) to calls t u) × (m ≡ meter s u) → Becomes P.misses (effect x) s t → Wrote P p L (pc + 1) calls s u effect x to m d
  landed pc u calls s effect t x to m d h after =
      let same : u ≡ m.units = ap (λ (x : Meter). x.units) (sym h.1) in
      (t, h.0 ∙ ap (between (pc + 1) to calls t) same, h.1 ∙ ap (meter s) same, omega (arith, same), after)

  content_writes : (left pc : ℕ) (check : Check) (i : Instr) (effect : List ℕ → Resolved (List ℕ)) → slice_get P.code pc ≡ Some i → ((c : State) → row P p true i c ≡ if_current c.store.frames c (prefixed P p true (move_of add check) c c.content))
      → ((x : List ℕ) (s : Store) → Fits s → Becomes P.misses (effect x) s (closed check (is_utf8 x) (add (after_length x) s))) → Writes P p L left 1 pc (pc + 1) (λ at m. content_at p at m >> checked check) effect
  content_writes left pc check i effect here acts after at u calls s ready =
      follows_so P p L 1 1 (between pc at calls s u) (content_at p at (meter s u) >> checked check) (λ v. Landed P p L add Fits adds check pc calls u rows s (after_length v) v) (Wrote P p L (pc + 1) calls s u effect) (omega arith)
      (content_follows P p L add Fits adds check pc calls u rows at s (ready.fit, ready.current) (row_of_instr P p _ i refl here ∙ acts (between pc at calls s u) ∙ rw (ready.current) refl))
      (λ x to m d g h. landed pc u calls s effect (closed check (is_utf8 x) (add (after_length x) s)) x to m d h (after x s (ready.fit, ready.current)))
    where
      rows : (content : Content) (a : ℕ) (t : Store) → Fits t → plain_row P p (moving (Some content) pc a calls t u) ≡ moves P p true (move_of add check) content (moving (Some content) pc a calls t u)
      rows content a t f = row_of_instr P p _ i refl here ∙ acts (moving (Some content) pc a calls t u) ∙ rw (f.1) refl

  pub text_writes : (left pc : ℕ) → slice_get P.code pc ≡ Some op.Text → Writes P p L left 1 pc (pc + 1) (text_at p) (λ text. Ok (after_length text))
  unfolding text_at
  text_writes left pc here = content_writes left pc OnlyText op.Text (λ text. Ok (after_length text)) here (λ c. refl) (λ x s f. refl)

  -- with no check when it is whole
  plainly : (left pc : ℕ) (check : Check) (effect : List ℕ → Resolved (List ℕ)) (reader : Reader (List ℕ)) → ((x : List ℕ) (to : ℕ) (m : Meter) → checked check x to m ≡ Complete x to m) → Writes P p L left 1 pc (pc + 1) (λ at m. reader at m >> checked check) effect → Writes P p L left 1 pc (pc + 1) reader effect
  plainly left pc check effect reader same runs at u calls s ready = subst (λ (g : Decoding (List ℕ)). Follows P p L 1 (between pc at calls s u) g (Wrote P p L (pc + 1) calls s u effect)) (unchecked check same (reader at (meter s u))) (runs at u calls s ready)

  becomes_any : (x : List ℕ) (s : Store) (b : Bool) → closed Anything b (add (after_length x) s) ≡ add (after_length x) s
  becomes_any x s b = refl

  pub bytes_write : (left pc : ℕ) → slice_get P.code pc ≡ Some op.Bytes → Writes P p L left 1 pc (pc + 1) (content_at p) (λ b. Ok (after_length b))
  bytes_write left pc here = plainly left pc Anything (λ b. Ok (after_length b)) (content_at p) (λ x to m. refl) (content_writes left pc Anything op.Bytes (λ b. Ok (after_length b)) here (λ c. refl) (λ x s f. refl))

  -- bytes that are to be a text, or a mismatch
  abbrev pub as_text : Mismatch → List ℕ → Resolved (List ℕ)
  as_text why b = cond (is_utf8 b) (Ok (after_length b)) (Err why)

  pub bytes_text_write : (left pc i : ℕ) (why : Mismatch) → slice_get P.code pc ≡ Some (op.BytesText i) → slice_get P.misses i ≡ Some why → Writes P p L left 1 pc (pc + 1) (content_at p) (as_text why)
  bytes_text_write left pc i why here is =
      plainly left pc (OrMiss i) (as_text why) (content_at p) (λ x to m. refl) (content_writes left pc (OrMiss i) (op.BytesText i) (as_text why) here (λ c. refl) (λ x s f. by_test x s f (is_utf8 x)))
    where
      by_test : (x : List ℕ) (s : Store) → Fits s → (ok : Bool) → Becomes P.misses (cond ok (Ok (after_length x)) (Err why)) s (closed (OrMiss i) ok (add (after_length x) s))
      by_test x s f true = refl
      by_test x s f false = (i, (add (after_length x) s).over, is, miss_is i (add (after_length x) s) (add_fits (after_length x) s f.0 f.1) ∙ stamp_add i ((add (after_length x) s).over) (after_length x) s f.0 f.1)

  pub fixed_writes : (left pc n : ℕ) → slice_get P.code pc ≡ Some (op.Fixed n) → Writes P p L left 1 pc (pc + 1) (fixed_at n p) (λ b. Ok b)
  fixed_writes left pc n here = plainly left pc Anything (λ b. Ok b) (fixed_at n p) (λ x to m. refl) (λ at u calls s ready.
      follows_so P p L 1 1 (between pc at calls s u) (fixed_at n p at (meter s u) >> checked Anything) (λ v. Landed P p L add Fits adds Anything pc calls u (rows u calls) s v v) (Wrote P p L (pc + 1) calls s u (λ b. Ok b)) (omega arith)
      (fixed_follows P p L add Fits adds Anything pc calls u (rows u calls) n at s (ready.fit, ready.current) refl (row_of_instr P p _ (op.Fixed n) refl here ∙ rw (ready.current) refl))
      (λ x to m d g h. landed pc u calls s (λ b. Ok b) (add x s) x to m d h refl))
    where
      with_part : (n : ℕ) (content : Content) (c : State) → fixed P p true (move_of add Anything) n c (Some content) ≡ moves P p true (move_of add Anything) content c
      with_part zero content c = refl
      with_part (suc n) content c = refl

      rows : (u : ℕ) (calls : List ℕ) (content : Content) (a : ℕ) (t : Store) → Fits t → plain_row P p (moving (Some content) pc a calls t u) ≡ moves P p true (move_of add Anything) content (moving (Some content) pc a calls t u)
      rows u calls content a t f = row_of_instr P p _ (op.Fixed n) refl here ∙ rw (f.1) refl ∙ with_part n content (moving (Some content) pc a calls t u)
