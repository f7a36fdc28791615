-- What is right of a list of relocations by its parts: the steps of the loops over sections, entries and objects.
use Rattle.std.proofs.Common.{◌≡◌, List, [], ◌∷◌, ◌++◌, map, subst, sym, ap, ◌∙◌}
use Rattle.std.specs.Prelude.{All}
use Rattle.std.proofs.lemmas.List.{append-nil}
use Rattle.std.proofs.lemmas.List.Elements.{All-append, All-cons, All-head, All-nil}
use Rattle.elf_model.proofs.Listed.{All-parts}
use Rattle.elf_model.proofs.Pairs.{AllPairs-append, AllPairs-nil, AllPairs-parts}
use Rattle.elf_model.specs.Link.Loading.{LoadedObject}
use Rattle.elf_model.specs.Link.Placement.{Where}
use Rattle.elf_model.specs.Link.Relocation.{AreFieldsApart, Relocation}
use Rattle.check_relocs.specs.Fields.{AreRight, IsRight, field_of}
use Rattle.check_relocs.specs.declared.fields.Field.{Field}
use Rattle.elf_model.proofs.Rests.{Left}

module _ {X : Type 0} (P : X → Type 0) where
  -- a part holds, so the claim is on what is behind it
  pub part_more :
      (Q : Type 0) (rest here more : List X) → rest ≡ here ++ more → All P here → Left Q (All P rest) → Left Q (All P more)
  part_more Q rest here more parts each q = (
    λ h. (All-parts P here more (subst (All P) parts (q.0 h))).1,
    λ m. q.1 (subst (All P) (sym parts) (All-append P here more each m)),
  )

  -- a part doesn't hold, so the claim doesn't
  pub part_stop :
      (Q : Type 0) (rest here more : List X) → rest ≡ here ++ more → (All P here → ⊥) → Left Q (All P rest) → Q → ⊥
  part_stop Q rest here more parts never q h = never (All-parts P here more (subst (All P) parts (q.0 h))).0

  pub one_more :
      (Q : Type 0) (rest : List X) (x : X) (more : List X) → rest ≡ x ∷ more → P x → Left Q (All P rest) → Left Q (All P more)
  one_more Q rest x more parts here q = part_more Q rest (x ∷ []) more parts (All-cons P x [] here (All-nil P)) q

  pub one_stop :
      (Q : Type 0) (rest : List X) (x : X) (more : List X) → rest ≡ x ∷ more → (P x → ⊥) → Left Q (All P rest) → Q → ⊥
  one_stop Q rest x more parts never q = part_stop Q rest (x ∷ []) more parts (λ all. never (All-head P x [] all)) q

  pub part_end : (Q : Type 0) (rest : List X) → rest ≡ [] → Left Q (All P rest) → Q
  part_end Q rest none q = q.1 (subst (All P) (sym none) (All-nil P))

  pub part_same : (Q : Type 0) (rest more : List X) → rest ≡ more → Left Q (All P rest) → Left Q (All P more)
  part_same Q rest more same q = subst (λ (xs : List X). Left Q (All P xs)) same q

  pub part_all : (whole rest : List X) → rest ≡ whole → Left (All P whole) (All P rest)
  part_all whole rest same = (λ h. subst (All P) (sym same) h, λ h. subst (All P) same h)

-- the list of fields: no field of what is passed over, and none left to add
pub fields_same :
    (objects : List LoadedObject) (ps : Where) (xs : List Field) (rest more : List Relocation) (total : List Field) → rest ≡ more →
    xs ++ map (field_of objects ps) rest ≡ total → xs ++ map (field_of objects ps) more ≡ total
fields_same objects ps xs rest more total same so_far = ap (λ (rs : List Relocation). xs ++ map (field_of objects ps) rs) (sym same) ∙ so_far

pub fields_end :
    (objects : List LoadedObject) (ps : Where) (xs : List Field) (rest : List Relocation) (total : List Field) → rest ≡ [] →
    xs ++ map (field_of objects ps) rest ≡ total → xs ≡ total
fields_end objects ps xs rest total none so_far =
    sym (append-nil xs) ∙ (ap (λ (rs : List Relocation). xs ++ map (field_of objects ps) rs) (sym none) ∙ so_far)

-- the same for relocations whose fields are apart
module _ (objects : List LoadedObject) (ps : Where) where
  pub right_more :
      (Q : Type 0) (rest here more : List Relocation) → rest ≡ here ++ more → AreRight objects ps here →
      All (λ r. All (AreFieldsApart r) more) here → Left Q (AreRight objects ps rest) → Left Q (AreRight objects ps more)
  right_more Q rest here more parts a cross q = (
    λ h. let b = subst (AreRight objects ps) parts (q.0 h) in
        record {
          each = (All-parts (IsRight objects ps) here more b.each).1;
          apart = (AllPairs-parts AreFieldsApart here more b.apart).1;
        },
    λ m. q.1
        (subst (AreRight objects ps) (sym parts) (record {
          each = All-append (IsRight objects ps) here more a.each m.each;
          apart = AllPairs-append AreFieldsApart here more a.apart m.apart cross;
        })),
  )

  pub right_stop :
      (Q : Type 0) (rest here more : List Relocation) → rest ≡ here ++ more → (AreRight objects ps here → ⊥) →
      Left Q (AreRight objects ps rest) → Q → ⊥
  right_stop Q rest here more parts never q h =
      let b = subst (AreRight objects ps) parts (q.0 h) in
      never (record {
        each = (All-parts (IsRight objects ps) here more b.each).0;
        apart = (AllPairs-parts AreFieldsApart here more b.apart).0;
      })

  pub right_end : (Q : Type 0) (rest : List Relocation) → rest ≡ [] → Left Q (AreRight objects ps rest) → Q
  right_end Q rest none q =
      q.1 (subst (AreRight objects ps) (sym none) (record { each = All-nil (IsRight objects ps); apart = AllPairs-nil AreFieldsApart }))
