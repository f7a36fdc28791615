-- The field of a relocation is right by a link's parts exactly where it is right.
use Rattle.std.proofs.Common.{◌≡◌, ℕ, Bool, ◌-◌, ◌<◌, ◌⊎◌, inl, inr, true, false, cond, List, length, Option, None, Some, refl, sym, ap, subst, ◌∙◌}
use Rattle.std.specs.Prelude.{◌↔◌, All, Any, Contains, IsSomeAnd, not, unwrap_or}
use Rattle.std.specs.List.{list_any}
use Rattle.std.proofs.lemmas.Bool.{false_from_ne_true, false≢true}
use Rattle.std.proofs.lemmas.List.Folds.{list_any-from_Any}
use Rattle.std.proofs.lemmas.List.Elements.{All-weaker}
use Rattle.std.proofs.lemmas.Option.{same_Some}
use Rattle.elf_model.specs.Inputs.ObjectFile.{rela_type}
use Rattle.elf_model.specs.Link.Placement as placement
use Rattle.elf_model.specs.Link.Placement.{AreApart, Covers}
use Rattle.elf_model.specs.Link.Relocation.{Kind, Relocation, relocations}
use Rattle.elf_model.specs.Link.Slots.{slot_kind_of}
use Rattle.elf_model.specs.declared.link_map.SlotKind.{SlotKind}
use Rattle.elf_model.specs.declared.link_map.SlotKind.TheVariants as slot
use Rattle.elf_model.specs.declared.link_map.DropLine.{DropLine}
use Rattle.elf_model.specs.declared.thing.Thing.{Thing}
use Rattle.judge_model.specs.Certificates.{is_left_out}
use Rattle.judge_model.specs.Fields as fields
use Rattle.judge_model.specs.Fields.{HasSlotAt, HoldsField, HoldsPlain, HoldsValue, IsFieldRight, IsPlaceRight, IsRewritten, IsSlot, instruction_of, is_code_in, kind_of, rewritten, rewritten_entry, slot_thing}
use Rattle.judge_model.specs.Links.{ForeignLink, is_in_image_too, objects_of, placed_of, relocations_of, sections_of}
use Rattle.judge_model.specs.Means as means
use Rattle.judge_model.specs.Placed.{things_of}
use Rattle.judge_model.specs.Rewrites.{Instruction, front_of, rewrite_of, rewritings}
use Rattle.judge_model.specs.declared.rewriting.Rewriting.{Rewriting}
use Rattle.judge_model.specs.declared.rewriting.Rewriting.TheVariants as row
use Rattle.judge_model.specs.Runs.{IsBetween}
use Rattle.field_judge.specs.Given.{Given, HasSlotIn, HoldsPlainIn, HoldsValueIn, IsRightIn, slot_value}
use Rattle.field_judge.proofs.RowLaws.{no_slot}
use Rattle.field_judge.specs.Rewritten.{IsOfKind, IsRewrittenIn}
use Rattle.memory_judge.specs.Slots.{IsClear, IsSlotAmong}
use Rattle.link_fields.proofs.Lists.{apart_from, never_in, passing}
use Rattle.link_fields.specs.Slots.{AsksSlotIn, AsksSlotUnlessOut}
use Rattle.elf_model.proofs.Finding.{Any-from_contains}
use Rattle.elf_model.proofs.Listed.{Contains-filter, Contains-from_filter}
use Rattle.link_fields.specs.Parts.{AreTaken, IsFieldRightIn, IsFieldRightUnlessOut, IsPlaceRightIn, address_of, definition_of, given, is_in_own_frames, is_thread_use, meant, parts_of, size_of}

-- no relocation of a kind whose formula is S + A is rewritten
no_sums : (w : Rewriting) → list_any means.is_sum (rewrite_of w).types ≡ false
no_sums row.MovToLea = refl
no_sums row.MovToImmediate = refl
no_sums row.TestToImmediate = refl
no_sums row.OperationToImmediate = refl
no_sums row.CallWithPrefix = refl
no_sums row.CallBehindNop = refl
no_sums row.CallBeforeNop = refl
no_sums row.JumpBehindNop = refl
no_sums row.JumpBeforeNop = refl
no_sums row.ThreadMovToImmediate = refl
no_sums row.ThreadAddToImmediate = refl
no_sums row.ThreadAddToLea = refl

no_sum : (w : Rewriting) (t : ℕ) → Contains (rewrite_of w).types t → means.is_sum t ≡ false
no_sum w t c = false_from_ne_true (means.is_sum t) (λ yes. false≢true (sym (no_sums w) ∙ list_any-from_Any means.is_sum (rewrite_of w).types (c.0, t, c.1, c.2, yes)))

module _ (l : ForeignLink) (taken : List Thing) (are : AreTaken l taken) where
  -- slots
  slot_of : (at v : ℕ) → IsSlotAmong l.image taken at v → IsSlot l at v
  slot_of at v s = record {
    aligned = s.aligned;
    in_file = s.in_file;
    apart = apart_from (slot_thing at) (things_of l) (λ a here some. never_in (slot_thing at) taken clear a here ((are.taken_is a).1 (inl some)));
    outside = λ p q a between here. never_in (slot_thing at) taken clear a here ((are.taken_is a).1 (inr (p, q, between)));
    holds = s.holds;
  }
    where
      clear : All (AreApart (slot_thing at)) taken
      clear = All-weaker (IsClear at) (AreApart (slot_thing at)) (λ t c. c.apart) taken s.apart

  slot_among : (at v : ℕ) → IsSlot l at v → IsSlotAmong l.image taken at v
  slot_among at v s = record {
    aligned = s.aligned;
    in_file = s.in_file;
    apart =
        All-weaker (AreApart (slot_thing at)) (IsClear at) (λ t h. record { apart = h }) taken
        (apart_from (slot_thing at) taken (λ a here some. by a here ((are.taken_is a).0 some)));
    holds = s.holds;
  }
    where
      by : (a : ℕ) → Covers (slot_thing at) a → Any (λ t. Covers t a) (things_of l) ⊎ ((p : placement.Placed) × (q : placement.Placed) × IsBetween (sections_of l) p q a) → ⊥
      by a here (inl some) = never_in (slot_thing at) (things_of l) s.apart a here some
      by a here (inr gap) = s.outside gap.0 gap.1 a gap.2 here

  module _ (r : Relocation) where
    meant_is : means.meant l r ≡ meant (parts_of l) (is_in_own_frames (parts_of l) r) r.symbol (means.added r.entry)
    unfolding means.meant
    meant_is = refl

    value_of : (k : Kind) (v at : ℕ) → HoldsValueIn l.image (given (parts_of l) r) k v at → HoldsValue l r k v at
    value_of k v at h = record { fits = h.fits; holds = h.holds }

    value_in : (k : Kind) (v at : ℕ) → HoldsValue l r k v at → HoldsValueIn l.image (given (parts_of l) r) k v at
    value_in k v at h = record { fits = h.fits; holds = h.holds }

    slot_held :
        (k : Kind) (asked : SlotKind) (v at : ℕ) → IsSlotAmong l.image taken at (slot_value l.image asked v) → IsSlot l at (fields.slot_value l asked v)
    slot_held k slot.Value v at s = slot_of at _ s
    slot_held k slot.Thread v at s = slot_of at _ s

    slot_back :
        (k : Kind) (asked : SlotKind) (v at : ℕ) → IsSlot l at (fields.slot_value l asked v) → IsSlotAmong l.image taken at (slot_value l.image asked v)
    slot_back k slot.Value v at s = slot_among at _ s
    slot_back k slot.Thread v at s = slot_among at _ s

    -- a relocation of a kind has its slot
    has_at :
        (k : Kind) (asked : SlotKind) (at : ℕ) → kind_of r ≡ Some k → slot_kind_of k.formula ≡ Some asked →
        HasSlotIn l.image taken (given (parts_of l) r) k asked at → HasSlotAt l r at
    has_at k asked at kind_is asks h = record {
      kind = k;
      kind_is = kind_is;
      asked = asked;
      asks = asks;
      value = h.value;
      means = meant_is ∙ h.means;
      held = value_of k h.value at h.held;
      slot = slot_held k asked h.value at h.slot_is;
    }

    has_in :
        (k : Kind) (asked : SlotKind) (at : ℕ) → kind_of r ≡ Some k → slot_kind_of k.formula ≡ Some asked →
        HasSlotAt l r at → HasSlotIn l.image taken (given (parts_of l) r) k asked at
    has_in k asked at kind_is asks h =
        let kind : h.kind ≡ k = same_Some h.kind k (sym h.kind_is ∙ kind_is) in
        let same : h.asked ≡ asked =
        same_Some h.asked asked (sym h.asks ∙ (subst (λ (j : Kind). slot_kind_of j.formula ≡ Some asked) (sym kind) asks)) in
        record {
          value = h.value;
          means = sym meant_is ∙ h.means;
          held = value_in k h.value at (subst (λ (j : Kind). HoldsValue l r j h.value at) kind h.held);
          slot_is = slot_back k asked h.value at (subst (λ (s : SlotKind). IsSlot l at (fields.slot_value l s h.value)) same h.slot);
        }

    pub slot_at : (at : ℕ) → AsksSlotIn (parts_of l) taken r at → HasSlotAt l r at
    slot_at at a = has_at a.kind a.asks.asked at a.kind_is a.asks.asks a.asks.slot_is

    pub slot_in : (at : ℕ) → HasSlotAt l r at → AsksSlotIn (parts_of l) taken r at
    slot_in at h = record {
      kind = h.kind;
      kind_is = h.kind_is;
      asks = record { asked = h.asked; asks = h.asks; slot_is = has_in h.kind h.asked at h.kind_is h.asks h };
    }

    plain_of :
        (k : Kind) (o : Option SlotKind) → kind_of r ≡ Some k → slot_kind_of k.formula ≡ o →
        HoldsPlainIn l.image taken (given (parts_of l) r) k o → HoldsPlain l r k o
    plain_of k None kind_is asks h =
        subst (λ (m : Option ℕ). IsSomeAnd m (λ v. HoldsValue l r k v 0)) (sym meant_is)
        (held (meant (parts_of l) (is_in_own_frames (parts_of l) r) r.symbol (means.added r.entry)) h)
      where
        held : (m : Option ℕ) → IsSomeAnd m (λ v. HoldsValueIn l.image (given (parts_of l) r) k v 0) → IsSomeAnd m (λ v. HoldsValue l r k v 0)
        held None never = never
        held (Some v) told = value_of k v 0 told
    plain_of k (Some asked) kind_is asks (at, h) = (at, has_at k asked at kind_is asks h)

    plain_in :
        (k : Kind) (o : Option SlotKind) → kind_of r ≡ Some k → slot_kind_of k.formula ≡ o →
        HoldsPlain l r k o → HoldsPlainIn l.image taken (given (parts_of l) r) k o
    plain_in k None kind_is asks h =
        held (meant (parts_of l) (is_in_own_frames (parts_of l) r) r.symbol (means.added r.entry))
        (subst (λ (m : Option ℕ). IsSomeAnd m (λ v. HoldsValue l r k v 0)) meant_is h)
      where
        held : (m : Option ℕ) → IsSomeAnd m (λ v. HoldsValue l r k v 0) → IsSomeAnd m (λ v. HoldsValueIn l.image (given (parts_of l) r) k v 0)
        held None never = never
        held (Some v) told = value_in k v 0 told
    plain_in k (Some asked) kind_is asks (at, h) = (at, has_in k asked at kind_is asks h)

    kind_of_right : IsOfKind l.image taken (given (parts_of l) r) (rela_type r.entry) → IsSomeAnd (kind_of r) (HoldsField l r)
    kind_of_right h = by (kind_of r) refl h
      where
        by : (o : Option Kind) → kind_of r ≡ o → IsSomeAnd o (IsRightIn l.image taken (given (parts_of l) r)) → IsSomeAnd o (HoldsField l r)
        by None is never = never
        by (Some k) is told = (told.0, told.1, plain_of k (slot_kind_of k.formula) is refl told.2)

    kind_in : IsSomeAnd (kind_of r) (HoldsField l r) → IsOfKind l.image taken (given (parts_of l) r) (rela_type r.entry)
    kind_in h = by (kind_of r) refl h
      where
        by : (o : Option Kind) → kind_of r ≡ o → IsSomeAnd o (HoldsField l r) → IsSomeAnd o (IsRightIn l.image taken (given (parts_of l) r))
        by None is never = never
        by (Some k) is told = (told.0, told.1, plain_in k (slot_kind_of k.formula) is refl told.2)

    -- a field of a kind without a slot
    free_of :
        (k : Kind) → slot_kind_of k.formula ≡ None → IsRightIn l.image taken (given (parts_of l) r) k → HoldsField l r k
    free_of k free told = (
      told.0,
      told.1,
      subst (HoldsPlain l r k) (sym free)
          (held (meant (parts_of l) (is_in_own_frames (parts_of l) r) r.symbol (means.added r.entry)) meant_is (subst (HoldsPlainIn l.image taken (given (parts_of l) r) k) free told.2)),
    )
      where
        held :
            (m : Option ℕ) → means.meant l r ≡ m → IsSomeAnd m (λ v. HoldsValueIn l.image (given (parts_of l) r) k v 0) →
            IsSomeAnd (means.meant l r) (λ v. HoldsValue l r k v 0)
        held None is never = absurd never
        held (Some v) is here = subst (λ (m : Option ℕ). IsSomeAnd m (λ v. HoldsValue l r k v 0)) (sym is) (value_of k v 0 here)

    free_in :
        (k : Kind) → slot_kind_of k.formula ≡ None → HoldsField l r k → IsRightIn l.image taken (given (parts_of l) r) k
    free_in k free told = (
      told.0,
      told.1,
      subst (HoldsPlainIn l.image taken (given (parts_of l) r) k) (sym free)
          (held (meant (parts_of l) (is_in_own_frames (parts_of l) r) r.symbol (means.added r.entry))
          (subst (λ (m : Option ℕ). IsSomeAnd m (λ v. HoldsValue l r k v 0)) meant_is (subst (HoldsPlain l r k) free told.2))),
    )
      where
        held :
            (m : Option ℕ) → IsSomeAnd m (λ v. HoldsValue l r k v 0) → IsSomeAnd m (λ v. HoldsValueIn l.image (given (parts_of l) r) k v 0)
        held None never = absurd never
        held (Some v) here = value_in k v 0 here

  module _ (r : Relocation) where
    abbrev own : Instruction
    own = instruction_of (objects_of l) r

    -- what a row's field is given, with the addend that may say what a symbol means; none does of a row's types
    abbrev with_added : Rewriting → Option ℕ → Given
    with_added w a = record {
      value = meant (parts_of l) (is_in_own_frames (parts_of l) r) r.symbol a;
      addend = ((rewrite_of w).put own).addend;
      at = unwrap_or (address_of (placed_of l) r.object r.section) 0;
      offset = r.entry.r_offset - length (rewrite_of w).behind;
      size = size_of (definition_of (parts_of l) r.symbol);
      got = l.certificate.got;
      thread = is_thread_use (objects_of l) (definition_of (parts_of l) r.symbol);
    }

    same_added :
        (w : Rewriting) → Contains (rewrite_of w).types (rela_type r.entry) →
        means.added r.entry ≡ means.added (rewritten_entry r.entry (length (rewrite_of w).behind) ((rewrite_of w).put own).addend)
    same_added w type =
        let none = no_sum w (rela_type r.entry) type in
        ap (λ (b : Bool). cond b (means.natural r.entry.r_addend) None) none
        ∙ sym (ap (λ (b : Bool). cond b (means.natural ((rewrite_of w).put own).addend) None) none)

    -- a row's
    row_of :
        (w : Rewriting) → 0 < front_of r.entry → is_code_in (objects_of l) r ≡ true →
        IsRewrittenIn l.image taken (given (parts_of l) r) (rela_type r.entry) (front_of r.entry) own w → IsRewritten l r w
    row_of w told code h = record {
      told = told;
      type_ = h.type_;
      code = code;
      instruction = h.instruction;
      front = h.front_is;
      field =
          free_of (rewritten r (length (rewrite_of w).behind) ((rewrite_of w).put own).addend) ((rewrite_of w).put own).kind (no_slot w own)
          (subst (λ (a : Option ℕ). IsRightIn l.image taken (with_added w a) ((rewrite_of w).put own).kind) (same_added w h.type_) h.field);
      behind = h.behind;
    }

    row_in : (w : Rewriting) → IsRewritten l r w → IsRewrittenIn l.image taken (given (parts_of l) r) (rela_type r.entry) (front_of r.entry) own w
    row_in w h = record {
      type_ = h.type_;
      instruction = h.instruction;
      front_is = h.front;
      field =
          subst (λ (a : Option ℕ). IsRightIn l.image taken (with_added w a) ((rewrite_of w).put own).kind) (sym (same_added w h.type_))
          (free_in (rewritten r (length (rewrite_of w).behind) ((rewrite_of w).put own).addend) ((rewrite_of w).put own).kind (no_slot w own) h.field);
      behind = h.behind;
    }

    place_of : IsPlaceRightIn (parts_of l) taken r → IsPlaceRight l r
    place_of (inl same) = inl (record { front = same.front_is; field = kind_of_right r same.field })
    place_of (inr rewritten) = inr (by rewritten.some)
      where
        by :
            Any (IsRewrittenIn l.image taken (given (parts_of l) r) (rela_type r.entry) (front_of r.entry) own) rewritings →
            Any (IsRewritten l r) rewritings
        by (i, w, low, is, h) = (i, w, low, is, row_of w rewritten.told rewritten.code_is h)

    place_in : IsPlaceRight l r → IsPlaceRightIn (parts_of l) taken r
    place_in (inl same) = inl (record { front_is = same.front; field = kind_in r same.field })
    place_in (inr (i, w, low, is, h)) = inr (record { told = h.told; code_is = h.code; some = (i, w, low, is, row_in w h) })

    pub right_of : IsFieldRightIn (parts_of l) taken r → IsFieldRight l r
    right_of h = record { right = λ out. place_of (h.right out) }

    pub right_in : IsFieldRight l r → IsFieldRightIn (parts_of l) taken r
    right_in h = record { right = λ out. place_in (h.right out) }

  -- the slots of all, but for those of sections that are left out
  pub some_slot :
      (drops : List DropLine) → l.certificate.drops ≡ drops → (at : ℕ) →
      Any (AsksSlotUnlessOut (parts_of l) taken drops at) (relocations (objects_of l)) ↔ Any (λ r. HasSlotAt l r at) (relocations_of l)
  some_slot drops same at = (to, from)
    where
      to : Any (AsksSlotUnlessOut (parts_of l) taken drops at) (relocations (objects_of l)) → Any (λ r. HasSlotAt l r at) (relocations_of l)
      to (i, r, low, is, a) =
          let there : is_in_image_too l r ≡ true =
          subst (λ (ds : List DropLine). not (is_left_out ds r.object r.section) ≡ true) (sym same) a.kept in
          Any-from_contains (λ (s : Relocation). HasSlotAt l s at) (relocations_of l) r
          (Contains-filter (is_in_image_too l) (relocations (objects_of l)) r (i, low, is) there) (slot_at r at a.asks)

      from : Any (λ r. HasSlotAt l r at) (relocations_of l) → Any (AsksSlotUnlessOut (parts_of l) taken drops at) (relocations (objects_of l))
      from (i, r, low, is, h) =
          let both = Contains-from_filter (is_in_image_too l) (relocations (objects_of l)) r (i, low, is) in
          Any-from_contains (AsksSlotUnlessOut (parts_of l) taken drops at) (relocations (objects_of l)) r both.0
          (record {
            kept = subst (λ (ds : List DropLine). not (is_left_out ds r.object r.section) ≡ true) same both.1;
            asks = slot_in r at h;
          })

  -- all of them, but for those of sections that are left out
  pub all_right :
      (drops : List DropLine) → l.certificate.drops ≡ drops →
      All (IsFieldRightUnlessOut (parts_of l) taken drops) (relocations (objects_of l)) ↔ All (IsFieldRight l) (relocations_of l)
  all_right drops same = (
    λ all.
        (passing (IsFieldRight l) (is_in_image_too l) (relocations (objects_of l))).1
        (All-weaker (IsFieldRightUnlessOut (parts_of l) taken drops) (λ r. is_in_image_too l r ≡ true → IsFieldRight l r)
        (λ r h there. right_of r (h.right (subst (λ (ds : List DropLine). not (is_left_out ds r.object r.section) ≡ true) same there)))
        (relocations (objects_of l)) all),
    λ all.
        All-weaker (λ r. is_in_image_too l r ≡ true → IsFieldRight l r) (IsFieldRightUnlessOut (parts_of l) taken drops)
        (λ r h. record {
          right = λ there.
              right_in r (h (subst (λ (ds : List DropLine). not (is_left_out ds r.object r.section) ≡ true) (sym same) there));
        })
        (relocations (objects_of l)) ((passing (IsFieldRight l) (is_in_image_too l) (relocations (objects_of l))).0 all),
  )
