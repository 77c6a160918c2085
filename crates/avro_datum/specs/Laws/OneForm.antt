-- No spelling begins another, and each spells one datum.
use Rattle.std.proofs.Common.{◌≡◌, ℕ, ◌+◌, List, [], ◌∷◌, ◌++◌, length, drop, Option, Some, refl, sym, ap, subst, ◌∙◌, append_assoc, slice_get}
use Rattle.std.proofs.lemmas.List.{drop_at}
use Rattle.spec_decoding.specs.Walk.{Walk, first_walk}
use Rattle.avro_bytes.specs.Walking.{Remains, Comes}
use Rattle.spec_avro.specs.Number.{int_limit, long_limit}
use Rattle.avro_bytes.specs.Laws.BlockEnds.{remains_first}
use Rattle.avro_bytes.specs.Laws.Blobs.{blob_one_form}
use Rattle.avro_bytes.specs.Laws.BlocksAgain.{step_complete}
use Rattle.avro_bytes.specs.Laws.BlocksSame.{comes_or_ends, comes_same, ends_same}
use Rattle.avro_bytes.specs.Laws.Booleans.{boolean_one_form}
use Rattle.avro_bytes.specs.Laws.Fixeds.{fixed_one_form}
use Rattle.avro_bytes.specs.Laws.Numbers.{number_one_form}
use Rattle.avro_bytes.specs.Laws.Texts.{text_one_form}
use Rattle.spec_avro.specs.Node.{Names, Node, FieldNode, FixedNode, EnumNode, ArrayNode, MapNode, UnionNode, RecordNode}
use Rattle.spec_avro.specs.Datum.{Datum, Data, Pairs, NullDatum, BooleanDatum, IntDatum, LongDatum, BytesDatum, TextDatum, FixedDatum, EnumDatum, ArrayDatum, MapDatum, UnionDatum, RecordDatum, no_more, more, no_pairs, pair}
use Rattle.spec_avro.specs.Position.{SpellsPosition}
use Rattle.spec_avro.specs.Spelling.{Spells, SpellsFields, SpellsItems, SpellsPairs}
use Rattle.avro_bytes.specs.Laws.Positions.{position_one_form}

-- ---- one node is of one kind

same_size : {n k : Names} {a b : ℕ} {o : Option Node} → o ≡ Some (FixedNode n a) → o ≡ Some (FixedNode k b) → a ≡ b
same_size p q = cc

same_symbols : {n k : Names} {a b : List (List ℕ)} {x y : Option ℕ} {o : Option Node} → o ≡ Some (EnumNode n a x) → o ≡ Some (EnumNode k b y) → a ≡ b
same_symbols p q = cc

same_items : {a b : ℕ} {o : Option Node} → o ≡ Some (ArrayNode a) → o ≡ Some (ArrayNode b) → a ≡ b
same_items p q = cc

same_values : {a b : ℕ} {o : Option Node} → o ≡ Some (MapNode a) → o ≡ Some (MapNode b) → a ≡ b
same_values p q = cc

same_members : {a b : List ℕ} {o : Option Node} → o ≡ Some (UnionNode a) → o ≡ Some (UnionNode b) → a ≡ b
same_members p q = cc

same_member : {a b : ℕ} {o : Option ℕ} → o ≡ Some a → o ≡ Some b → a ≡ b
same_member p q = cc

same_fields : {n k : Names} {a b : List FieldNode} {o : Option Node} → o ≡ Some (RecordNode n a) → o ≡ Some (RecordNode k b) → a ≡ b
same_fields p q = cc

-- ---- one part after another

-- what comes after equal fronts
rest_is : (a b x y : List ℕ) → a ≡ b → a ++ x ≡ b ++ y → x ≡ y
rest_is a b x y same e = sym (drop_at a x (length a) refl) ∙ ap (drop (length a)) e ∙ drop_at b y (length a) (sym (ap length same))

two_parts : (a f r x b g s y : List ℕ) → a ≡ f ++ r → b ≡ g ++ s → a ++ x ≡ b ++ y → f ++ (r ++ x) ≡ g ++ (s ++ y)
two_parts a f r x b g s y p q e = sym (append_assoc f r x) ∙ ap (λ (k : List ℕ). k ++ x) (sym p) ∙ e ∙ ap (λ (k : List ℕ). k ++ y) q ∙ append_assoc g s y

joined_same : (a f r b g s : List ℕ) → a ≡ f ++ r → b ≡ g ++ s → f ≡ g → r ≡ s → a ≡ b
joined_same a f r b g s p q e h = p ∙ ap (λ (k : List ℕ). k ++ r) e ∙ ap (λ (k : List ℕ). g ++ k) h ∙ sym q

-- after an item that both walks come to, they go on alike
record GoOn (walk : Walk) (at : ℕ) (i j : List ℕ) (is js : List (List ℕ)) (a b x y : List ℕ) : Type 0 where
  p : Comes walk at i is a
  q : Comes walk at j js b
  first : i ++ (p.rest ++ x) ≡ j ++ (q.rest ++ y)
  next : i ≡ j → Remains q.next ((at + length q.head) + length j) is p.rest
  whole : i ≡ j → p.rest ≡ q.rest → a ≡ b

go_on : (walk : Walk) (at : ℕ) (i j : List ℕ) (is js : List (List ℕ)) (a b x y : List ℕ) → Remains walk at (i ∷ is) a → Remains walk at (j ∷ js) b → a ++ x ≡ b ++ y → GoOn walk at i j is js a b x y
go_on walk at i j is js a b x y r s e =
    let p = step_complete walk at i is a r in
    let q = step_complete walk at j js b s in
    let same = comes_same walk at i j is js a b x y p q e in
    record {
      p = p;
      q = q;
      first = same.2;
      next = λ k. subst (λ (w : Walk). Remains w ((at + length q.head) + length j) is p.rest) same.0 (subst (λ (h : List ℕ). Remains p.next ((at + length h) + length j) is p.rest) same.1 (subst (λ (n : List ℕ). Remains p.next ((at + length p.head) + length n) is p.rest) k p.still));
      whole = λ k h. joined_same a p.head (i ++ p.rest) b q.head (j ++ q.rest) p.parts q.parts same.1 (ap (λ (n : List ℕ). n ++ p.rest) k ∙ ap (λ (n : List ℕ). j ++ n) h);
    }

mutual
  pub datum_one_form : (nodes : List Node) (node : ℕ) (v w : Datum) (a b x y : List ℕ) → Spells nodes node v a → Spells nodes node w b → a ++ x ≡ b ++ y → (a ≡ b) × (v ≡ w)
  datum_one_form nodes node NullDatum NullDatum a b x y s t e = (s.1 ∙ sym t.1, refl)
  datum_one_form nodes node (BooleanDatum m) (BooleanDatum n) a b x y s t e = let f = boolean_one_form a b x y m n s.1 t.1 e in (f.0, ap BooleanDatum f.1)
  datum_one_form nodes node (IntDatum m) (IntDatum n) a b x y s t e = let f = number_one_form int_limit a b x y m n s.1 t.1 e in (f.0, ap IntDatum f.1)
  datum_one_form nodes node (LongDatum m) (LongDatum n) a b x y s t e = let f = number_one_form long_limit a b x y m n s.1 t.1 e in (f.0, ap LongDatum f.1)
  datum_one_form nodes node (BytesDatum m) (BytesDatum n) a b x y s t e = let f = blob_one_form a b x y m n s.1 t.1 e in (f.0, ap BytesDatum f.1)
  datum_one_form nodes node (TextDatum m) (TextDatum n) a b x y s t e = let f = text_one_form a b x y m n s.1 t.1 e in (f.0, ap TextDatum f.1)
  datum_one_form nodes node (FixedDatum m) (FixedDatum n) a b x y s t e =
      let f = fixed_one_form s.1 a b x y m n s.3 (rw (same_size t.2 s.2) at t.3) e in (f.0, ap FixedDatum f.1)
  datum_one_form nodes node (EnumDatum m) (EnumDatum n) a b x y s t e =
      let f = position_one_form (length s.1) a b x y m n s.4 (subst (λ (k : List (List ℕ)). SpellsPosition (length k) n b) (same_symbols t.3 s.3) t.4) e in (f.0, ap EnumDatum f.1)
  datum_one_form nodes node (ArrayDatum ds) (ArrayDatum es) a b x y s t e =
      let f = items_one_form nodes s.0 ds es (first_walk 0) 0 s.2 t.2 a b x y (remains_first 0 0 s.2 a s.3) (remains_first 0 0 t.2 b t.3) s.4 (subst (λ (k : ℕ). SpellsItems nodes k es t.2) (same_items t.1 s.1) t.4) e in (f.0, ap ArrayDatum f.1)
  datum_one_form nodes node (MapDatum ps) (MapDatum qs) a b x y s t e =
      let f = pairs_one_form nodes s.0 ps qs (first_walk 0) 0 s.2 t.2 a b x y (remains_first 0 0 s.2 a s.3) (remains_first 0 0 t.2 b t.3) s.4 (subst (λ (k : ℕ). SpellsPairs nodes k qs t.2) (same_values t.1 s.1) t.4) e in (f.0, ap MapDatum f.1)
  datum_one_form nodes node (UnionDatum m d) (UnionDatum n f) a b x y s t e =
      let whole = two_parts a s.5 s.6 x b t.5 t.6 y s.7 t.7 e in
      let same = same_members t.1 s.1 in
      let first = position_one_form (length s.0) s.5 t.5 (s.6 ++ x) (t.6 ++ y) m n s.8 (subst (λ (k : List ℕ). SpellsPosition (length k) n t.5) same t.8) whole in
      let member : t.2 ≡ s.2 = same_member (ap (λ (k : List ℕ). slice_get k n) (sym same) ∙ t.3) (ap (λ (k : ℕ). slice_get s.0 k) (sym first.1) ∙ s.3) in
      let inner = datum_one_form nodes s.2 d f s.6 t.6 x y s.9 (subst (λ (k : ℕ). Spells nodes k f t.6) member t.9) (rest_is s.5 t.5 (s.6 ++ x) (t.6 ++ y) first.0 whole) in
      (joined_same a s.5 s.6 b t.5 t.6 s.7 t.7 first.0 inner.0, ap (λ (k : ℕ). UnionDatum k d) first.1 ∙ ap (UnionDatum n) inner.1)
  datum_one_form nodes node (RecordDatum ds) (RecordDatum es) a b x y s t e =
      let f = fields_one_form nodes s.1 ds es a b x y s.3 (subst (λ (fs : List FieldNode). SpellsFields nodes fs es b) (same_fields t.2 s.2) t.3) e in (f.0, ap RecordDatum f.1)
  datum_one_form nodes node _ _ a b x y s t e = absurd cc

  items_one_form : (nodes : List Node) (node : ℕ) (ds es : Data) (walk : Walk) (at : ℕ) (is js : List (List ℕ)) (a b x y : List ℕ) → Remains walk at is a → Remains walk at js b → SpellsItems nodes node ds is → SpellsItems nodes node es js → a ++ x ≡ b ++ y → (a ≡ b) × (ds ≡ es)
  items_one_form nodes node no_more no_more walk at [] [] a b x y r k s t e = (ends_same walk at a b x y r k e, refl)
  items_one_form nodes node (more d ds) (more f es) walk at (i ∷ is) (j ∷ js) a b x y r k s t e =
      let g = go_on walk at i j is js a b x y r k e in
      let first = datum_one_form nodes node d f i j (g.p.rest ++ x) (g.q.rest ++ y) s.0 t.0 g.first in
      let others = items_one_form nodes node ds es g.q.next ((at + length g.q.head) + length j) is js g.p.rest g.q.rest x y (g.next first.0) g.q.still s.1 t.1 (rest_is i j (g.p.rest ++ x) (g.q.rest ++ y) first.0 g.first) in
      (g.whole first.0 others.0, ap (λ (z : Datum). more z ds) first.1 ∙ ap (more f) others.1)
  items_one_form nodes node no_more (more f es) walk at [] (j ∷ js) a b x y r k s t e = absurd (comes_or_ends walk at j js b a y x (step_complete walk at j js b k) r (sym e))
  items_one_form nodes node (more d ds) no_more walk at (i ∷ is) [] a b x y r k s t e = absurd (comes_or_ends walk at i is a b x y (step_complete walk at i is a r) k e)
  items_one_form nodes node no_more es walk at (i ∷ is) js a b x y r k s t e = absurd s
  items_one_form nodes node (more d ds) es walk at [] js a b x y r k s t e = absurd s
  items_one_form nodes node ds no_more walk at is (j ∷ js) a b x y r k s t e = absurd t
  items_one_form nodes node ds (more f es) walk at is [] a b x y r k s t e = absurd t

  pairs_one_form : (nodes : List Node) (node : ℕ) (ps qs : Pairs) (walk : Walk) (at : ℕ) (is js : List (List ℕ)) (a b x y : List ℕ) → Remains walk at is a → Remains walk at js b → SpellsPairs nodes node ps is → SpellsPairs nodes node qs js → a ++ x ≡ b ++ y → (a ≡ b) × (ps ≡ qs)
  pairs_one_form nodes node no_pairs no_pairs walk at [] [] a b x y r k s t e = (ends_same walk at a b x y r k e, refl)
  pairs_one_form nodes node (pair key d ps) (pair name f qs) walk at (i ∷ is) (j ∷ js) a b x y r k s t e =
      let g = go_on walk at i j is js a b x y r k e in
      let one = s.0 in
      let two = t.0 in
      let whole = two_parts i s.0.0 s.0.1 (g.p.rest ++ x) j t.0.0 t.0.1 (g.q.rest ++ y) s.0.2 t.0.2 g.first in
      let keys = text_one_form s.0.0 t.0.0 (s.0.1 ++ (g.p.rest ++ x)) (t.0.1 ++ (g.q.rest ++ y)) key name s.0.3 t.0.3 whole in
      let data_same = datum_one_form nodes node d f s.0.1 t.0.1 (g.p.rest ++ x) (g.q.rest ++ y) s.0.4 t.0.4 (rest_is s.0.0 t.0.0 (s.0.1 ++ (g.p.rest ++ x)) (t.0.1 ++ (g.q.rest ++ y)) keys.0 whole) in
      let first : i ≡ j = joined_same i s.0.0 s.0.1 j t.0.0 t.0.1 s.0.2 t.0.2 keys.0 data_same.0 in
      let others = pairs_one_form nodes node ps qs g.q.next ((at + length g.q.head) + length j) is js g.p.rest g.q.rest x y (g.next first) g.q.still s.1 t.1 (rest_is i j (g.p.rest ++ x) (g.q.rest ++ y) first g.first) in
      (g.whole first others.0, ap (λ (z : List ℕ). pair z d ps) keys.1 ∙ ap (λ (z : Datum). pair name z ps) data_same.1 ∙ ap (pair name f) others.1)
  pairs_one_form nodes node no_pairs (pair name f qs) walk at [] (j ∷ js) a b x y r k s t e = absurd (comes_or_ends walk at j js b a y x (step_complete walk at j js b k) r (sym e))
  pairs_one_form nodes node (pair key d ps) no_pairs walk at (i ∷ is) [] a b x y r k s t e = absurd (comes_or_ends walk at i is a b x y (step_complete walk at i is a r) k e)
  pairs_one_form nodes node no_pairs qs walk at (i ∷ is) js a b x y r k s t e = absurd s
  pairs_one_form nodes node (pair key d ps) qs walk at [] js a b x y r k s t e = absurd s
  pairs_one_form nodes node ps no_pairs walk at is (j ∷ js) a b x y r k s t e = absurd t
  pairs_one_form nodes node ps (pair name f qs) walk at is [] a b x y r k s t e = absurd t

  fields_one_form : (nodes : List Node) (fields : List FieldNode) (ds es : Data) (a b x y : List ℕ) → SpellsFields nodes fields ds a → SpellsFields nodes fields es b → a ++ x ≡ b ++ y → (a ≡ b) × (ds ≡ es)
  fields_one_form nodes [] no_more no_more a b x y s t e = (s ∙ sym t, refl)
  fields_one_form nodes (field ∷ fields) (more d ds) (more f es) a b x y s t e =
      let whole = two_parts a s.0 s.1 x b t.0 t.1 y s.2 t.2 e in
      let first = datum_one_form nodes field.node d f s.0 t.0 (s.1 ++ x) (t.1 ++ y) s.3 t.3 whole in
      let others = fields_one_form nodes fields ds es s.1 t.1 x y s.4 t.4 (rest_is s.0 t.0 (s.1 ++ x) (t.1 ++ y) first.0 whole) in
      (joined_same a s.0 s.1 b t.0 t.1 s.2 t.2 first.0 others.0, ap (λ (k : Datum). more k ds) first.1 ∙ ap (more f) others.1)
  fields_one_form nodes [] (more d ds) es a b x y s t e = absurd s
  fields_one_form nodes [] no_more (more f es) a b x y s t e = absurd t
  fields_one_form nodes (field ∷ fields) no_more es a b x y s t e = absurd s
  fields_one_form nodes (field ∷ fields) (more d ds) no_more a b x y s t e = absurd t
