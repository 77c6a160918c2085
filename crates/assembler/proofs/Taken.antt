-- What is assembled has the text as its listing.
use Rattle.std.proofs.Common.{◌≡◌, ℕ, suc, ◌+◌, ◌^◌, ◌<◌, ◌≤◌, nat_lt, eqb, cond, not, Bool, true, false, List, [], ◌∷◌, ◌++◌, length, drop, Some, None, Result, Ok, Err, refl, sym, ap, subst, ◌∙◌, append_assoc, arith}
use Rattle.std.specs.Prelude.{codes}
use Rattle.std.specs.List.{AllByRecursion, flat_map}
use Rattle.std.specs.Fmt.{decimal}
use Rattle.std.specs.Str.{bytes_eq}
use Rattle.std.proofs.lemmas.Bool.{eqb-true}
use Rattle.std.proofs.lemmas.List.{append-nil}
use Rattle.hex.specs.Hex.{encode_lower}
use Rattle.spec_avro.specs.MismatchKind as kinds
use Rattle.spec_avro.specs.declared.mismatch.Mismatch.{Mismatch}
use Rattle.spec_machine.specs.declared.entry.Entry.{Entry}
use Rattle.spec_machine.specs.declared.limits.TheConstants.{MOST_INSTRS, MOST_TABLES}
use Rattle.spec_machine.specs.Program.{Program}
use Rattle.spec_machine.specs.declared.listing_fault.AsmErrorKind.TheVariants.{BadIndex, BadLine, TooLarge}
use Rattle.spec_machine.specs.declared.listing_fault.AsmFault.{AsmFault}
use Rattle.spec_machine.specs.Assembling.{◌>>=◌, checked, fault, fits_constant, fits_list, is_before_code, is_before_jumps, is_before_maps, is_before_misses, placed, with_constant, with_instr, with_jumps, with_lines, with_map, with_miss, with_words}
use Rattle.spec_machine.specs.Listing.{constant_line, entry, instr_line, jumps_line, lines, lines_from, listing_of, map_line, miss_line, number}
use Rattle.spec_machine.specs.ListingParts.{Numbered, constant_in, each_in, entry_in, instr_in, miss_in, numbered}
use Rattle.spec_machine.specs.ListingWords.{number_in, words}
use Rattle.assembler.proofs.Fit.{EntryFits, Fits, InstrFits, IsLow, MissFits, all_split}
use Rattle.assembler.proofs.Joined.{after, joined, joined_parts}
use Rattle.avro_bytes.specs.Laws.Plain.{both}
use Rattle.assembler.proofs.Said.{address_taken, constant_taken, each_taken, entry_taken, instr_taken, miss_taken, numbered_taken, same_bytes, tail_of}

pub bind_ok : {A B : Type 0} (r : Result A AsmFault) (f : A → Result B AsmFault) (y : B) → (r >>= f) ≡ Ok y → (x : A) × (r ≡ Ok x) × (f x ≡ Ok y)
bind_ok (Ok x) f y e = (x, refl, e)
bind_ok (Err e) f y h = absurd cc

pub ok_is : {A : Type 0} (x y : A) → ◌≡◌ {A = Result A AsmFault} (Ok x) (Ok y) → x ≡ y
ok_is x y e = cc

checked_ok : (at : ℕ) (here : Bool) (next n : ℕ) (fits : Bool) (u : Unit {0}) → checked at here next n fits ≡ Ok u → (here ≡ true) × (n ≡ next) × (fits ≡ true)
checked_ok at false next n fits u e = absurd cc
checked_ok at true next n fits u e = by_number (eqb n next) refl e where
  by_fit : (f : Bool) → cond (not f) (Err (fault TooLarge at)) (Ok tt) ≡ Ok u → f ≡ true
  by_fit true e = refl
  by_fit false e = absurd cc

  by_number : (t : Bool) → eqb n next ≡ t → cond (not t) (Err (fault BadIndex at)) (cond (not fits) (Err (fault TooLarge at)) (Ok tt)) ≡ Ok u → (true ≡ true) × (n ≡ next) × (fits ≡ true)
  by_number true is e = (refl, eqb-true n next is, by_fit fits e)
  by_number false is e = absurd cc

placed_ok : {A : Type 0} (at : ℕ) (here : Bool) (next : ℕ) (fits : A → Bool) (o : Numbered A) (x : A) → placed at here next fits o ≡ Ok x → (here ≡ true) × (o ≡ Some (next, x)) × (fits x ≡ true)
placed_ok at here next fits None x e = absurd cc
placed_ok {A = A} at here next fits (Some p) x e =
    let b = bind_ok (checked at here next p.0 (fits p.1)) (λ _. Ok p.1) x e in
    let c = checked_ok at here next p.0 (fits p.1) b.0 b.1 in
    let same : p.1 ≡ x = ok_is p.1 x b.2 in
    (c.0, ap (λ (n : ℕ). Some (n, p.1)) c.1 ∙ ap (λ (y : A). Some (next, y)) same, subst (λ (y : A). fits y ≡ true) same c.2)

low : (n most : ℕ) → nat_lt n most ≡ true → most ≤ 2 ^ 20 → IsLow n
low n most e few = let less : n < most = grind arith in omega (arith, less, few)

abbrev miss_tail : Mismatch → List ℕ
miss_tail m = codes " " ++ kinds.name_of m.kind ++ number m.writer_node ++ number m.reader_node

miss_shape : (a n s k w r z : List ℕ) → (a ++ (n ++ (((s ++ k) ++ w) ++ r))) ++ z ≡ (((((a ++ n) ++ s) ++ k) ++ w) ++ r) ++ z
miss_shape a n s k w r z = simp append_assoc

-- ---- one line more

more_from : {A : Type 0} (line : ℕ → A → List ℕ) (k : ℕ) (xs : List A) (x : A) → lines_from line k (xs ++ x ∷ []) ≡ lines_from line k xs ++ line (length xs + k) x
more_from line k [] x = let at : k ≡ 0 + k = omega arith in append-nil (line k x) ∙ ap (λ n. line n x) at
more_from line k (y ∷ xs) x =
    let at : length xs + suc k ≡ suc (length xs) + k = omega arith in
    ap (λ (t : List ℕ). line k y ++ t) (more_from line (suc k) xs x ∙ ap (λ n. lines_from line (suc k) xs ++ line n x) at)
    ∙ sym (append_assoc (line k y) (lines_from line (suc k) xs) (line (suc (length xs) + k) x))

more : {A : Type 0} (line : ℕ → A → List ℕ) (xs : List A) (x : A) → lines line (xs ++ x ∷ []) ≡ lines line xs ++ line (length xs) x
more line xs x = let at : length xs + 0 ≡ length xs = omega arith in more_from line 0 xs x ∙ ap (λ n. lines line xs ++ line n x) at

-- before nothing
base : (M L R : List ℕ) → R ≡ [] → (M ++ L) ++ R ≡ (M ++ R) ++ L
base M L R e = rw e (append-nil (M ++ L) ∙ ap (λ (t : List ℕ). t ++ L) (sym (append-nil M)))

-- after others
push : (H X Y L : List ℕ) → Y ≡ X ++ L → H ++ Y ≡ (H ++ X) ++ L
push H X Y L e = ap (λ (t : List ℕ). H ++ t) e ∙ sym (append_assoc H X L)

abbrev header : List ℕ
header = codes "avro program 1" ++ 10 ∷ []

is_nil : {A : Type 0} (xs : List A) → eqb (length xs) 0 ≡ true → xs ≡ []
is_nil [] e = refl
is_nil (x ∷ xs) e = absurd (omega (arith, eqb-true (length (x ∷ xs)) 0 e))

module _ (P : Program) where
  abbrev code_lines : List ℕ
  code_lines = lines instr_line P.code

  abbrev from_misses : List ℕ
  from_misses = lines miss_line P.misses ++ code_lines

  abbrev from_jumps : List ℕ
  from_jumps = lines jumps_line P.jumps ++ from_misses

  abbrev from_maps : List ℕ
  from_maps = lines map_line P.maps ++ from_jumps

  no_code : is_before_code P ≡ true → code_lines ≡ []
  no_code e = ap (lines instr_line) (is_nil P.code e)

  no_misses : is_before_misses P ≡ true → from_misses ≡ []
  no_misses e =
      let k = both (eqb (length P.misses) 0) (is_before_code P) e in
      ap (λ (ms : List Mismatch). lines miss_line ms ++ code_lines) (is_nil P.misses k.0) ∙ no_code k.1

  no_jumps : is_before_jumps P ≡ true → from_jumps ≡ []
  no_jumps e =
      let k = both (eqb (length P.jumps) 0) (is_before_misses P) e in
      ap (λ (ts : List (List ℕ)). lines jumps_line ts ++ from_misses) (is_nil P.jumps k.0) ∙ no_misses k.1

  no_maps : is_before_maps P ≡ true → from_maps ≡ []
  no_maps e =
      let k = both (eqb (length P.maps) 0) (is_before_jumps P) e in
      ap (λ (ms : List (List Entry)). lines map_line ms ++ from_jumps) (is_nil P.maps k.0) ∙ no_jumps k.1

  -- ---- by sections

  abbrev Grows : Program → List ℕ → Type 0
  Grows Q line = Fits P × (listing_of Q ≡ listing_of P ++ (line ++ 10 ∷ []))

  constant_grows : (at : ℕ) (ws : List (List ℕ)) (Q : Program) → with_constant at P ws ≡ Ok Q → Fits Q → Grows Q (codes "const" ++ after 32 ws)
  unfolding with_constant
  constant_grows at ws Q e fit =
      let b = bind_ok (placed at (is_before_maps P) (length P.constants) (fits_constant P) (numbered constant_in ws)) (λ bytes. Ok (record P { constants = P.constants ++ bytes ∷ [] })) Q e in
      let new : Program = record P { constants = P.constants ++ b.0 ∷ [] } in
      let is : new ≡ Q = ok_is new Q b.2 in
      let own : Fits new = subst Fits (sym is) fit in
      let p = placed_ok at (is_before_maps P) (length P.constants) (fits_constant P) (numbered constant_in ws) b.0 b.1 in
      let small = low (length P.constants) MOST_TABLES (both (nat_lt (length P.constants) MOST_TABLES) _ p.2).0 (omega arith) in
      let said = numbered_taken constant_in (λ bytes. codes " " ++ encode_lower bytes) (λ _. Unit {0}) (λ vs x e _. constant_taken vs x e) ws (length P.constants) b.0 p.1 small tt in
      let line : constant_line (length P.constants) b.0 ≡ (codes "const" ++ after 32 ws) ++ 10 ∷ [] =
      sym (ap (λ (t : List ℕ). (codes "const" ++ t) ++ 10 ∷ []) said ∙ simp append_assoc) in
      let grown : listing_of new ≡ listing_of P ++ constant_line (length P.constants) b.0 =
      ap (λ (t : List ℕ). header ++ (t ++ from_maps)) (more constant_line P.constants b.0)
      ∙ push header (lines constant_line P.constants ++ from_maps) _ (constant_line (length P.constants) b.0) (base (lines constant_line P.constants) (constant_line (length P.constants) b.0) from_maps (no_maps p.0)) in
      (record { maps = own.maps; jumps = own.jumps; misses = own.misses; code = own.code }, sym (ap listing_of is) ∙ grown ∙ ap (λ (t : List ℕ). listing_of P ++ t) line)

  map_grows : (at : ℕ) (ws : List (List ℕ)) (Q : Program) → with_map at P ws ≡ Ok Q → Fits Q → Grows Q (codes "map" ++ after 32 ws)
  unfolding with_map
  map_grows at ws Q e fit =
      let b = bind_ok (placed at (is_before_jumps P) (length P.maps) (fits_list P.maps) (numbered (each_in entry_in) ws)) (λ map. Ok (record P { maps = P.maps ++ map ∷ [] })) Q e in
      let new : Program = record P { maps = P.maps ++ b.0 ∷ [] } in
      let is : new ≡ Q = ok_is new Q b.2 in
      let own : Fits new = subst Fits (sym is) fit in
      let split = all_split (AllByRecursion EntryFits) P.maps b.0 own.maps in
      let p = placed_ok at (is_before_jumps P) (length P.maps) (fits_list P.maps) (numbered (each_in entry_in) ws) b.0 b.1 in
      let small = low (length P.maps) MOST_TABLES (both (nat_lt (length P.maps) MOST_TABLES) _ p.2).0 (omega arith) in
      let said = numbered_taken (each_in entry_in) (flat_map entry) (AllByRecursion EntryFits) (each_taken entry_in entry EntryFits entry_taken) ws (length P.maps) b.0 p.1 small split.1 in
      let line : map_line (length P.maps) b.0 ≡ (codes "map" ++ after 32 ws) ++ 10 ∷ [] =
      sym (ap (λ (t : List ℕ). (codes "map" ++ t) ++ 10 ∷ []) said ∙ simp append_assoc) in
      let L = map_line (length P.maps) b.0 in
      let C = lines constant_line P.constants in
      let grown : listing_of new ≡ listing_of P ++ L =
      ap (λ (t : List ℕ). header ++ (C ++ (t ++ from_jumps))) (more map_line P.maps b.0)
      ∙ push header (C ++ from_maps) _ L (push C from_maps _ L (base (lines map_line P.maps) L from_jumps (no_jumps p.0))) in
      (record { maps = split.0; jumps = own.jumps; misses = own.misses; code = own.code }, sym (ap listing_of is) ∙ grown ∙ ap (λ (t : List ℕ). listing_of P ++ t) line)

  jumps_grows : (at : ℕ) (ws : List (List ℕ)) (Q : Program) → with_jumps at P ws ≡ Ok Q → Fits Q → Grows Q (codes "jumps" ++ after 32 ws)
  unfolding with_jumps
  jumps_grows at ws Q e fit =
      let b = bind_ok (placed at (is_before_misses P) (length P.jumps) (fits_list P.jumps) (numbered (each_in number_in) ws)) (λ table. Ok (record P { jumps = P.jumps ++ table ∷ [] })) Q e in
      let new : Program = record P { jumps = P.jumps ++ b.0 ∷ [] } in
      let is : new ≡ Q = ok_is new Q b.2 in
      let own : Fits new = subst Fits (sym is) fit in
      let split = all_split (AllByRecursion IsLow) P.jumps b.0 own.jumps in
      let p = placed_ok at (is_before_misses P) (length P.jumps) (fits_list P.jumps) (numbered (each_in number_in) ws) b.0 b.1 in
      let small = low (length P.jumps) MOST_TABLES (both (nat_lt (length P.jumps) MOST_TABLES) _ p.2).0 (omega arith) in
      let said = numbered_taken (each_in number_in) (flat_map number) (AllByRecursion IsLow) (each_taken number_in number IsLow address_taken) ws (length P.jumps) b.0 p.1 small split.1 in
      let line : jumps_line (length P.jumps) b.0 ≡ (codes "jumps" ++ after 32 ws) ++ 10 ∷ [] =
      sym (ap (λ (t : List ℕ). (codes "jumps" ++ t) ++ 10 ∷ []) said ∙ simp append_assoc) in
      let L = jumps_line (length P.jumps) b.0 in
      let C = lines constant_line P.constants in
      let M = lines map_line P.maps in
      let grown : listing_of new ≡ listing_of P ++ L =
      ap (λ (t : List ℕ). header ++ (C ++ (M ++ (t ++ from_misses)))) (more jumps_line P.jumps b.0)
      ∙ push header (C ++ from_maps) _ L (push C from_maps _ L (push M from_jumps _ L (base (lines jumps_line P.jumps) L from_misses (no_misses p.0)))) in
      (record { maps = own.maps; jumps = split.0; misses = own.misses; code = own.code }, sym (ap listing_of is) ∙ grown ∙ ap (λ (t : List ℕ). listing_of P ++ t) line)

  miss_grows : (at : ℕ) (ws : List (List ℕ)) (Q : Program) → with_miss at P ws ≡ Ok Q → Fits Q → Grows Q (codes "miss" ++ after 32 ws)
  unfolding with_miss
  miss_grows at ws Q e fit =
      let b = bind_ok (placed at (is_before_code P) (length P.misses) (λ _. nat_lt (length P.misses) MOST_TABLES) (numbered miss_in ws)) (λ miss. Ok (record P { misses = P.misses ++ miss ∷ [] })) Q e in
      let new : Program = record P { misses = P.misses ++ b.0 ∷ [] } in
      let is : new ≡ Q = ok_is new Q b.2 in
      let own : Fits new = subst Fits (sym is) fit in
      let split = all_split MissFits P.misses b.0 own.misses in
      let p = placed_ok at (is_before_code P) (length P.misses) (λ _. nat_lt (length P.misses) MOST_TABLES) (numbered miss_in ws) b.0 b.1 in
      let small = low (length P.misses) MOST_TABLES p.2 (omega arith) in
      let said = numbered_taken miss_in miss_tail MissFits miss_taken ws (length P.misses) b.0 p.1 small split.1 in
      let line : miss_line (length P.misses) b.0 ≡ (codes "miss" ++ after 32 ws) ++ 10 ∷ [] =
      sym (ap (λ (t : List ℕ). (codes "miss" ++ t) ++ 10 ∷ []) said
      ∙ miss_shape (codes "miss") (number (length P.misses)) (codes " ") (kinds.name_of b.0.kind) (number b.0.writer_node) (number b.0.reader_node) (10 ∷ [])) in
      let L = miss_line (length P.misses) b.0 in
      let C = lines constant_line P.constants in
      let M = lines map_line P.maps in
      let J = lines jumps_line P.jumps in
      let grown : listing_of new ≡ listing_of P ++ L =
      ap (λ (t : List ℕ). header ++ (C ++ (M ++ (J ++ (t ++ code_lines))))) (more miss_line P.misses b.0)
      ∙ push header (C ++ from_maps) _ L (push C from_maps _ L (push M from_jumps _ L (push J from_misses _ L (base (lines miss_line P.misses) L code_lines (no_code p.0))))) in
      (record { maps = own.maps; jumps = own.jumps; misses = split.0; code = own.code }, sym (ap listing_of is) ∙ grown ∙ ap (λ (t : List ℕ). listing_of P ++ t) line)

  instr_grows : (at : ℕ) (w : List ℕ) (ws : List (List ℕ)) (Q : Program) → with_instr at P (w ∷ ws) ≡ Ok Q → Fits Q → Grows Q (w ++ after 32 ws)
  unfolding with_instr
  instr_grows at w ws Q e fit =
      let b = bind_ok (placed at true (length P.code) (λ _. nat_lt (length P.code) MOST_INSTRS) (numbered instr_in (w ∷ ws))) (λ instr. Ok (record P { code = P.code ++ instr ∷ [] })) Q e in
      let new : Program = record P { code = P.code ++ b.0 ∷ [] } in
      let is : new ≡ Q = ok_is new Q b.2 in
      let own : Fits new = subst Fits (sym is) fit in
      let split = all_split InstrFits P.code b.0 own.code in
      let p = placed_ok at true (length P.code) (λ _. nat_lt (length P.code) MOST_INSTRS) (numbered instr_in (w ∷ ws)) b.0 b.1 in
      let small = low (length P.code) MOST_INSTRS p.2 (omega arith) in
      let said = numbered_taken instr_in tail_of InstrFits instr_taken (w ∷ ws) (length P.code) b.0 p.1 small split.1 in
      let bare : w ++ after 32 ws ≡ decimal (length P.code) ++ tail_of b.0 = ap (drop 1) said in
      let line : instr_line (length P.code) b.0 ≡ (w ++ after 32 ws) ++ 10 ∷ [] =
      sym (ap (λ (t : List ℕ). t ++ 10 ∷ []) bare ∙ simp append_assoc) in
      let L = instr_line (length P.code) b.0 in
      let C = lines constant_line P.constants in
      let M = lines map_line P.maps in
      let J = lines jumps_line P.jumps in
      let I = lines miss_line P.misses in
      let grown : listing_of new ≡ listing_of P ++ L =
      push header (C ++ from_maps) _ L (push C from_maps _ L (push M from_jumps _ L (push J from_misses _ L (push I code_lines _ L (more instr_line P.code b.0))))) in
      (record { maps = own.maps; jumps = own.jumps; misses = own.misses; code = split.0 }, sym (ap listing_of is) ∙ grown ∙ ap (λ (t : List ℕ). listing_of P ++ t) line)

  -- ---- by the first word

  abbrev AfterWord : List ℕ → List (List ℕ) → Program → Type 0
  AfterWord w ws Q = Fits Q → Grows Q (w ++ after 32 ws)

  named : (w name : List ℕ) (ws : List (List ℕ)) (Q : Program) → bytes_eq w name ≡ true → (Fits Q → Grows Q (name ++ after 32 ws)) → AfterWord w ws Q
  named w name ws Q e h = subst (λ (v : List ℕ). AfterWord v ws Q) (sym (same_bytes w name e)) h

  by_word : (at : ℕ) (w : List ℕ) (ws : List (List ℕ)) (Q : Program) (a b c d : Bool)
      → bytes_eq w (codes "const") ≡ a → bytes_eq w (codes "map") ≡ b → bytes_eq w (codes "jumps") ≡ c → bytes_eq w (codes "miss") ≡ d
      → cond a (with_constant at P ws) (cond b (with_map at P ws) (cond c (with_jumps at P ws) (cond d (with_miss at P ws) (with_instr at P (w ∷ ws))))) ≡ Ok Q → AfterWord w ws Q
  by_word at w ws Q true b c d ea eb ec ed e = named w (codes "const") ws Q ea (constant_grows at ws Q e)
  by_word at w ws Q false true c d ea eb ec ed e = named w (codes "map") ws Q eb (map_grows at ws Q e)
  by_word at w ws Q false false true d ea eb ec ed e = named w (codes "jumps") ws Q ec (jumps_grows at ws Q e)
  by_word at w ws Q false false false true ea eb ec ed e = named w (codes "miss") ws Q ed (miss_grows at ws Q e)
  by_word at w ws Q false false false false ea eb ec ed e = instr_grows at w ws Q e

  words_grow : (at : ℕ) (ws : List (List ℕ)) (Q : Program) → with_words at P ws ≡ Ok Q → Fits Q → Grows Q (joined 32 ws)
  unfolding with_words
  words_grow at [] Q e fit = absurd cc
  words_grow at (w ∷ ws) Q e fit = by_word at w ws Q (bytes_eq w (codes "const")) (bytes_eq w (codes "map")) (bytes_eq w (codes "jumps")) (bytes_eq w (codes "miss")) refl refl refl refl e fit

  line_grows : (at : ℕ) (line : List ℕ) (Q : Program) → with_words at P (words line) ≡ Ok Q → Fits Q → Grows Q line
  line_grows at line Q e fit = subst (λ (l : List ℕ). Grows Q l) (joined_parts 32 line) (words_grow at (words line) Q e fit)

-- ---- all lines

pub lines_grow : (at : ℕ) (P : Program) (ls : List (List ℕ)) (Q : Program) → with_lines at P ls ≡ Ok Q → Fits Q → Fits P × (listing_of Q ≡ listing_of P ++ joined 10 ls)
unfolding with_lines
lines_grow at P [] Q e fit = let is : P ≡ Q = ok_is P Q e in (subst Fits (sym is) fit, sym (ap listing_of is) ∙ sym (append-nil (listing_of P)))
lines_grow at P (line ∷ []) Q e fit = last (eqb (length line) 0) refl e where
  last : (t : Bool) → eqb (length line) 0 ≡ t → cond t (Ok P) (Err (fault BadLine at)) ≡ Ok Q → Fits P × (listing_of Q ≡ listing_of P ++ (line ++ []))
  last true empty e =
      let is : P ≡ Q = ok_is P Q e in
      (subst Fits (sym is) fit, sym (ap listing_of is) ∙ sym (ap (λ (t : List ℕ). listing_of P ++ (t ++ [])) (is_nil line empty) ∙ append-nil (listing_of P)))
  last false empty e = absurd cc
lines_grow at P (line ∷ next ∷ ls) Q e fit =
    let b = bind_ok (with_words at P (words line)) (λ R. with_lines (suc at) R (next ∷ ls)) Q e in
    let rest = lines_grow (suc at) b.0 (next ∷ ls) Q b.2 fit in
    let first = line_grows P at line b.0 b.1 rest.0 in (
      first.0,
      rest.1 ∙ ap (λ (t : List ℕ). t ++ joined 10 (next ∷ ls)) first.1 ∙ append_assoc (listing_of P) (line ++ 10 ∷ []) (joined 10 (next ∷ ls))
          ∙ ap (λ (t : List ℕ). listing_of P ++ t) (append_assoc line (10 ∷ []) (joined 10 (next ∷ ls))),
    )
