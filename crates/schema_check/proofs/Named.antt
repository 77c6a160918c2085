-- Pairs with names for their nodes, and without.
use Rattle.std.proofs.Common.{◌≡◌, ℕ, zero, suc, ◌<◌, List, [], ◌∷◌, ◌++◌, length, get_or, map, reverse, refl, sym, ap, subst, ◌∙◌, arith}
use Rattle.std.proofs.lemmas.List.{map-append, reverse-append}
use Rattle.resolver.specs.Pairs.{AreWithin}
use Rattle.spec_avro.specs.Safety.{Pair}
use Rattle.schema_check.specs.Pairs.{AreBelow, node_pair, pair_at, pairs_at}
use Rattle.schema_check.specs.declared.pairs.NodePair.{NodePair}

pub pairs_again : (ps : List Pair) → pairs_at (map node_pair ps) ≡ ps
pairs_again [] = refl
pairs_again (p ∷ ps) = ap (λ (x : List Pair). p ∷ x) (pairs_again ps)

pub below_all : (writers readers : ℕ) (ps : List Pair) → AreWithin writers readers ps → AreBelow writers readers (map node_pair ps)
below_all writers readers [] a = tt
below_all writers readers (p ∷ ps) a = (a.0, below_all writers readers ps a.1)

pub below_back : (writers readers : ℕ) (ns : List NodePair) → AreBelow writers readers ns → AreWithin writers readers (pairs_at ns)
below_back writers readers [] a = tt
below_back writers readers (n ∷ ns) a = (a.0, below_back writers readers ns a.1)

pub pairs_reversed : (ns : List NodePair) → pairs_at (reverse ns) ≡ reverse (pairs_at ns)
pairs_reversed [] = refl
pairs_reversed (n ∷ ns) = ap pairs_at (reverse-append (n ∷ []) ns) ∙ map-append pair_at (reverse ns) (n ∷ []) ∙ ap (λ (x : List Pair). x ++ pair_at n ∷ []) (pairs_reversed ns) ∙ sym (reverse-append (pair_at n ∷ []) (pairs_at ns))

pub below_more : (writers readers : ℕ) (ns more : List NodePair) → AreBelow writers readers ns → AreBelow writers readers more → AreBelow writers readers (ns ++ more)
below_more writers readers [] more a b = b
below_more writers readers (n ∷ ns) more a b = (a.0, below_more writers readers ns more a.1 b)

pub below_reversed : (writers readers : ℕ) (ns : List NodePair) → AreBelow writers readers ns → AreBelow writers readers (reverse ns)
below_reversed writers readers [] a = tt
below_reversed writers readers (n ∷ ns) a = subst (AreBelow writers readers) (sym (reverse-append (n ∷ []) ns)) (below_more writers readers (reverse ns) (n ∷ []) (below_reversed writers readers ns a.1) (a.0, tt))

pub below_one : (writers readers : ℕ) (ns : List NodePair) (i : ℕ) (n : NodePair) → AreBelow writers readers ns → i < length ns → n ≡ get_or ns i n → (n.writer_node < writers) × (n.reader_node < readers)
below_one writers readers [] i n a lt e = absurd (omega arith)
below_one writers readers (x ∷ ns) zero n a lt e = subst (λ (y : NodePair). (y.writer_node < writers) × (y.reader_node < readers)) (sym e) a.0
below_one writers readers (x ∷ ns) (suc i) n a lt e = below_one writers readers ns i n a.1 (omega arith) e

pub pair_of_place : (ns : List NodePair) (i : ℕ) (n : NodePair) → i < length ns → n ≡ get_or ns i n → pair_at n ≡ get_or (pairs_at ns) i (0, 0)
pair_of_place [] i n lt e = absurd (omega arith)
pair_of_place (x ∷ ns) zero n lt e = ap pair_at e
pair_of_place (x ∷ ns) (suc i) n lt e = pair_of_place ns i n (omega arith) e
