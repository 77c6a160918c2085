-- Which word a text is: one case for each word that counts, and one for all others.
use Rattle.std.proofs.Common.{◌≡◌, ◌≢◌, ◌⊎◌, inl, inr, ℕ, List, Bool, true, false, Option, Some, None, refl, sym, ap, ◌∙◌, subst, codes, true≢false}
use Rattle.std.specs.Str.{bytes_eq}
use Rattle.std.proofs.lemmas.Slice.Eq.{bytes_eq-Decides}
use Rattle.serde_json.specs.Data.{Data, null, boolean, number, string, array, object}
use Rattle.spec_schema.specs.declared.schema_error.SchemaError.TheVariants.{OutOfProfile}
use Rattle.spec_avro.specs.Node.{Node, NullNode, BooleanNode, IntNode, LongNode, BytesNode, TextNode}
use Rattle.spec_schema.specs.Walk.{fault, leaf, named, reference}
use Rattle.spec_schema.specs.Word.{word_of, is_primitive, form_of}
use Rattle.spec_schema.specs.Declaring.{IsNoWord, IsNoPrimitive, IsPrimitive, null_type, boolean_type, int_type, long_type, bytes_type, text_type}

decided : (s w : List ℕ) (b : Bool) → bytes_eq s w ≡ b → (s ≡ w) ⊎ (bytes_eq s w ≡ false)
decided s w true e = inl ((bytes_eq-Decides s w).0 e)
decided s w false e = inr e

decide : (s w : List ℕ) → (s ≡ w) ⊎ (bytes_eq s w ≡ false)
decide s w = decided s w (bytes_eq s w) refl

-- ---- an object's type

pub data FormOf (o : Option Data) : Type 0 where
  is_record : o ≡ Some (string (codes "record")) → FormOf o
  is_enum : o ≡ Some (string (codes "enum")) → FormOf o
  is_fixed : o ≡ Some (string (codes "fixed")) → FormOf o
  is_array : o ≡ Some (string (codes "array")) → FormOf o
  is_map : o ≡ Some (string (codes "map")) → FormOf o
  is_error : o ≡ Some (string (codes "error")) → FormOf o
  is_other : form_of o ≡ form_of None → FormOf o

text_form : (s : List ℕ) → FormOf (Some (string s))
text_form s =
    elim (decide s (codes "null")) [
      | inl e ↦ is_other (ap (λ x. form_of (Some (string x))) e)
      | inr n0 ↦
          elim (decide s (codes "boolean")) [
            | inl e ↦ is_other (ap (λ x. form_of (Some (string x))) e)
            | inr n1 ↦
                elim (decide s (codes "int")) [
                  | inl e ↦ is_other (ap (λ x. form_of (Some (string x))) e)
                  | inr n2 ↦
                      elim (decide s (codes "long")) [
                        | inl e ↦ is_other (ap (λ x. form_of (Some (string x))) e)
                        | inr n3 ↦
                            elim (decide s (codes "bytes")) [
                              | inl e ↦ is_other (ap (λ x. form_of (Some (string x))) e)
                              | inr n4 ↦
                                  elim (decide s (codes "string")) [
                                    | inl e ↦ is_other (ap (λ x. form_of (Some (string x))) e)
                                    | inr n5 ↦
                                        elim (decide s (codes "float")) [
                                          | inl e ↦ is_other (ap (λ x. form_of (Some (string x))) e)
                                          | inr n6 ↦
                                              elim (decide s (codes "double")) [
                                                | inl e ↦ is_other (ap (λ x. form_of (Some (string x))) e)
                                                | inr n7 ↦
                                                    elim (decide s (codes "record")) [
                                                      | inl e ↦ is_record (ap (λ x. Some (string x)) e)
                                                      | inr n8 ↦
                                                          elim (decide s (codes "enum")) [
                                                            | inl e ↦ is_enum (ap (λ x. Some (string x)) e)
                                                            | inr n9 ↦
                                                                elim (decide s (codes "fixed")) [
                                                                  | inl e ↦ is_fixed (ap (λ x. Some (string x)) e)
                                                                  | inr n10 ↦
                                                                      elim (decide s (codes "array")) [
                                                                        | inl e ↦ is_array (ap (λ x. Some (string x)) e)
                                                                        | inr n11 ↦
                                                                            elim (decide s (codes "map")) [
                                                                              | inl e ↦ is_map (ap (λ x. Some (string x)) e)
                                                                              | inr n12 ↦
                                                                                  elim (decide s (codes "error")) [
                                                                                    | inl e ↦ is_error (ap (λ x. Some (string x)) e)
                                                                                    | inr n13 ↦
                                                                                        is_other (rw (n0, n1, n2, n3, n4, n5, n6, n7, n8, n9, n10, n11, n12, n13) refl)
                                                                                  ]
                                                                            ]
                                                                      ]
                                                                ]
                                                          ]
                                                    ]
                                              ]
                                        ]
                                  ]
                            ]
                      ]
                ]
          ]
    ]

pub form_is : (o : Option Data) → FormOf o
form_is None = is_other refl
form_is (Some null) = is_other refl
form_is (Some (boolean b)) = is_other refl
form_is (Some (number n)) = is_other refl
form_is (Some (string s)) = text_form s
form_is (Some (array ds)) = is_other refl
form_is (Some (object ms)) = is_other refl

pub no_word : (d : Data) → form_of (Some d) ≡ form_of None → IsNoWord d
no_word d h = (λ e. let a = ap (λ x. form_of (Some x)) e in absurd (let no : ⊥ = cc in no), (λ e. let a = ap (λ x. form_of (Some x)) e in absurd (let no : ⊥ = cc in no), (λ e. let a = ap (λ x. form_of (Some x)) e in absurd (let no : ⊥ = cc in no), (λ e. let a = ap (λ x. form_of (Some x)) e in absurd (let no : ⊥ = cc in no), (λ e. let a = ap (λ x. form_of (Some x)) e in absurd (let no : ⊥ = cc in no), (λ e. let a = ap (λ x. form_of (Some x)) e in absurd (let no : ⊥ = cc in no), tt))))))

some_same : {d e : Data} → Some d ≡ Some e → d ≡ e
some_same h = cc

other_form : (d : Data) → IsNoWord d → FormOf (Some d) → form_of (Some d) ≡ form_of None
other_form d n (is_record e) = absurd (n.0 (some_same e))
other_form d n (is_enum e) = absurd (n.1.0 (some_same e))
other_form d n (is_fixed e) = absurd (n.1.1.0 (some_same e))
other_form d n (is_array e) = absurd (n.1.1.1.0 (some_same e))
other_form d n (is_map e) = absurd (n.1.1.1.1.0 (some_same e))
other_form d n (is_error e) = absurd (n.1.1.1.1.1.0 (some_same e))
other_form d n (is_other e) = e

pub other_is : (d : Data) → IsNoWord d → form_of (Some d) ≡ form_of None
other_is d n = other_form d n (form_is (Some d))

-- ---- what a text names

pub data TextIs (s : List ℕ) : Type 0 where
  primitive : (node : Node) → IsPrimitive s node → named s ≡ leaf node → is_primitive (word_of s) ≡ true → TextIs s
  left_out : (s ≡ codes "float") ⊎ (s ≡ codes "double") → named s ≡ fault OutOfProfile → is_primitive (word_of s) ≡ true → TextIs s
  other : named s ≡ reference s → is_primitive (word_of s) ≡ false → TextIs s

pub text_is : (s : List ℕ) → TextIs s
unfolding named
text_is s =
    elim (decide s (codes "null")) [
      | inl e ↦ primitive NullNode (subst (λ x. IsPrimitive x NullNode) (sym e) null_type) (ap named e) (ap (λ x. is_primitive (word_of x)) e)
      | inr n0 ↦
          elim (decide s (codes "boolean")) [
            | inl e ↦ primitive BooleanNode (subst (λ x. IsPrimitive x BooleanNode) (sym e) boolean_type) (ap named e) (ap (λ x. is_primitive (word_of x)) e)
            | inr n1 ↦
                elim (decide s (codes "int")) [
                  | inl e ↦ primitive IntNode (subst (λ x. IsPrimitive x IntNode) (sym e) int_type) (ap named e) (ap (λ x. is_primitive (word_of x)) e)
                  | inr n2 ↦
                      elim (decide s (codes "long")) [
                        | inl e ↦ primitive LongNode (subst (λ x. IsPrimitive x LongNode) (sym e) long_type) (ap named e) (ap (λ x. is_primitive (word_of x)) e)
                        | inr n3 ↦
                            elim (decide s (codes "bytes")) [
                              | inl e ↦ primitive BytesNode (subst (λ x. IsPrimitive x BytesNode) (sym e) bytes_type) (ap named e) (ap (λ x. is_primitive (word_of x)) e)
                              | inr n4 ↦
                                  elim (decide s (codes "string")) [
                                    | inl e ↦ primitive TextNode (subst (λ x. IsPrimitive x TextNode) (sym e) text_type) (ap named e) (ap (λ x. is_primitive (word_of x)) e)
                                    | inr n5 ↦
                                        elim (decide s (codes "float")) [
                                          | inl e ↦ left_out (inl e) (ap named e) (ap (λ x. is_primitive (word_of x)) e)
                                          | inr n6 ↦
                                              elim (decide s (codes "double")) [
                                                | inl e ↦ left_out (inr e) (ap named e) (ap (λ x. is_primitive (word_of x)) e)
                                                | inr n7 ↦
                                                    elim (decide s (codes "record")) [
                                                      | inl e ↦ other (ap named e ∙ ap reference (sym e)) (ap (λ x. is_primitive (word_of x)) e)
                                                      | inr n8 ↦
                                                          elim (decide s (codes "enum")) [
                                                            | inl e ↦ other (ap named e ∙ ap reference (sym e)) (ap (λ x. is_primitive (word_of x)) e)
                                                            | inr n9 ↦
                                                                elim (decide s (codes "fixed")) [
                                                                  | inl e ↦ other (ap named e ∙ ap reference (sym e)) (ap (λ x. is_primitive (word_of x)) e)
                                                                  | inr n10 ↦
                                                                      elim (decide s (codes "array")) [
                                                                        | inl e ↦ other (ap named e ∙ ap reference (sym e)) (ap (λ x. is_primitive (word_of x)) e)
                                                                        | inr n11 ↦
                                                                            elim (decide s (codes "map")) [
                                                                              | inl e ↦ other (ap named e ∙ ap reference (sym e)) (ap (λ x. is_primitive (word_of x)) e)
                                                                              | inr n12 ↦
                                                                                  elim (decide s (codes "error")) [
                                                                                    | inl e ↦ other (ap named e ∙ ap reference (sym e)) (ap (λ x. is_primitive (word_of x)) e)
                                                                                    | inr n13 ↦
                                                                                        other (rw (n0, n1, n2, n3, n4, n5, n6, n7, n8, n9, n10, n11, n12, n13) refl) (rw (n0, n1, n2, n3, n4, n5, n6, n7, n8, n9, n10, n11, n12, n13) refl)
                                                                                  ]
                                                                            ]
                                                                      ]
                                                                ]
                                                          ]
                                                    ]
                                              ]
                                        ]
                                  ]
                            ]
                      ]
                ]
          ]
    ]

distinct_from : (s w : List ℕ) → is_primitive (word_of s) ≡ false → is_primitive (word_of w) ≡ true → s ≢ w
distinct_from s w left right e = true≢false (sym right ∙ sym (ap (λ x. is_primitive (word_of x)) e) ∙ left)

pub no_primitive : (s : List ℕ) → is_primitive (word_of s) ≡ false → IsNoPrimitive s
no_primitive s h = (distinct_from s (codes "null") h refl, (distinct_from s (codes "boolean") h refl, (distinct_from s (codes "int") h refl, (distinct_from s (codes "long") h refl, (distinct_from s (codes "bytes") h refl, (distinct_from s (codes "string") h refl, (distinct_from s (codes "float") h refl, (distinct_from s (codes "double") h refl, tt))))))))

not_primitive : (s : List ℕ) → IsNoPrimitive s → TextIs s → (named s ≡ reference s) × (is_primitive (word_of s) ≡ false)
not_primitive s n (primitive node p a b) = absurd (is_none p n)
  where
    is_none : {s : List ℕ} {node : Node} → IsPrimitive s node → IsNoPrimitive s → ⊥
    is_none null_type n = n.0 refl
    is_none boolean_type n = n.1.0 refl
    is_none int_type n = n.1.1.0 refl
    is_none long_type n = n.1.1.1.0 refl
    is_none bytes_type n = n.1.1.1.1.0 refl
    is_none text_type n = n.1.1.1.1.1.0 refl
not_primitive s n (left_out (inl e) a b) = absurd (n.1.1.1.1.1.1.0 e)
not_primitive s n (left_out (inr e) a b) = absurd (n.1.1.1.1.1.1.1.0 e)
not_primitive s n (other a b) = (a, b)

pub reference_is : (s : List ℕ) → IsNoPrimitive s → named s ≡ reference s
reference_is s n = (not_primitive s n (text_is s)).0

pub no_primitive_is : (s : List ℕ) → IsNoPrimitive s → is_primitive (word_of s) ≡ false
no_primitive_is s n = (not_primitive s n (text_is s)).1

pub primitive_is : (s : List ℕ) (node : Node) → IsPrimitive s node → named s ≡ leaf node
unfolding named
primitive_is s node null_type = refl
primitive_is s node boolean_type = refl
primitive_is s node int_type = refl
primitive_is s node long_type = refl
primitive_is s node bytes_type = refl
primitive_is s node text_type = refl
