-- The fields of call frames in the list are right by a link's parts exactly where they are right.
use Rattle.std.proofs.Common.{◌≡◌, ◌∙◌, ◌+◌, ℕ, true, List, Option, None, Some, refl, subst, sym, arith}
use Rattle.std.specs.Prelude.{◌↔◌, All, IsSomeAnd, not}
use Rattle.std.proofs.lemmas.List.Elements.{All-weaker}
use Rattle.elf_model.specs.Link.Loading.{LoadedObject}
use Rattle.elf_model.specs.Link.Pieces.{Piece}
use Rattle.elf_model.specs.Link.Relocation.{Kind, Relocation, relocations}
use Rattle.elf_model.specs.declared.link_map.DropLine.{DropLine}
use Rattle.elf_model.specs.declared.thing.Thing.{Thing}
use Rattle.judge_model.specs.Certificates.{is_left_out}
use Rattle.judge_model.specs.Fields.{HoldsValueAt, kind_of}
use Rattle.judge_model.specs.Frames.{HasRightList, IsFrameFieldRight, IsHeldAt, IsRightInList, frame_at}
use Rattle.judge_model.specs.Links.{ForeignLink, framed_of, is_in_image_too, objects_of, relocations_of}
use Rattle.judge_model.specs.Means as means
use Rattle.judge_model.specs.declared.certificate.MergedLine.{MergedLine}
use Rattle.judge_model.specs.declared.certificate.StretchLine.{StretchLine}
use Rattle.field_judge.specs.Given.{HoldsPlainIn, HoldsValueIn}
use Rattle.link_fields.proofs.Lists.{passing}
use Rattle.link_fields.specs.Parts.{Parts, given, is_in_own_frames, meant, parts_of}
use Rattle.link_fields.specs.Rests.{kept_in}
use Rattle.frame_judge.specs.Held.{IsHeldBy, IsListFieldIn, IsRightUnlessOut, moved_to}

-- what an option has is so by another name
some_and : {X : Type 0} (P Q : X → Type 0) → ((x : X) → P x → Q x) → (o : Option X) → IsSomeAnd o P → IsSomeAnd o Q
some_and P Q f None never = never
some_and P Q f (Some x) h = f x h

-- the list by other names
module _ (i j : List ℕ) (fs gs : List Piece) (os ps : List LoadedObject) (ds es : List DropLine) (ls ms : List MergedLine) (xs ys : List StretchLine) (s t : Option StretchLine) (image : i ≡ j) (framed : fs ≡ gs) (objects : os ≡ ps) (drops : ds ≡ es) (lines : ls ≡ ms) (areas : xs ≡ ys) (list : s ≡ t) where
  pub same_list : HasRightList i fs (kept_in ds os) ls xs s ↔ HasRightList j gs (kept_in es ps) ms ys t
  same_list =
      let whole : Type 0 = HasRightList i fs (kept_in ds os) ls xs s in
      subst (λ (x : Option StretchLine). whole ↔ HasRightList j gs (kept_in es ps) ms ys x) list
      (subst (λ (x : List StretchLine). whole ↔ HasRightList j gs (kept_in es ps) ms x s) areas
      (subst (λ (x : List MergedLine). whole ↔ HasRightList j gs (kept_in es ps) x xs s) lines
      (subst (λ (x : List DropLine). whole ↔ HasRightList j gs (kept_in x ps) ls xs s) drops
      (subst (λ (x : List LoadedObject). whole ↔ HasRightList j gs (kept_in ds x) ls xs s) objects
      (subst (λ (x : List Piece). whole ↔ HasRightList j x (kept_in ds os) ls xs s) framed
      (subst (λ (x : List ℕ). whole ↔ HasRightList x fs (kept_in ds os) ls xs s) image (λ h. h, λ h. h)))))))

-- and the fields
module _ (p q : Parts) (taken : List Thing) (fs gs : List Piece) (ls ms : List MergedLine) (ds es : List DropLine) (parts : p ≡ q) (framed : fs ≡ gs) (lines : ls ≡ ms) (drops : ds ≡ es) where
  pub same_right :
      All (IsRightUnlessOut p taken fs ls ds) (relocations p.objects) ↔ All (IsRightUnlessOut q taken gs ms es) (relocations q.objects)
  same_right =
      let whole : Type 0 = All (IsRightUnlessOut p taken fs ls ds) (relocations p.objects) in
      subst (λ (x : List DropLine). whole ↔ All (IsRightUnlessOut q taken gs ms x) (relocations q.objects)) drops
      (subst (λ (x : List MergedLine). whole ↔ All (IsRightUnlessOut q taken gs x ds) (relocations q.objects)) lines
      (subst (λ (x : List Piece). whole ↔ All (IsRightUnlessOut q taken x ls ds) (relocations q.objects)) framed
      (subst (λ (x : Parts). whole ↔ All (IsRightUnlessOut x taken fs ls ds) (relocations x.objects)) parts (λ h. h, λ h. h))))

module _ (l : ForeignLink) (taken : List Thing) where
  module _ (r : Relocation) where
    meant_is : means.meant l r ≡ meant (parts_of l) (is_in_own_frames (parts_of l) r) r.symbol (means.added r.entry)
    unfolding means.meant
    meant_is = refl

    value_of : (k : Kind) (a v : ℕ) → HoldsValueIn l.image (moved_to (given (parts_of l) r) a) k v 0 → HoldsValueAt l r k v 0 a
    value_of k a v h = subst (HoldsValueAt l r k v 0) (omega (arith)) (record { fits = h.fits; holds = h.holds })

    value_in : (k : Kind) (a v : ℕ) → HoldsValueAt l r k v 0 a → HoldsValueIn l.image (moved_to (given (parts_of l) r) a) k v 0
    value_in k a v h = let h = subst (HoldsValueAt l r k v 0) (omega (arith)) h in record { fits = h.fits; holds = h.holds }

    held_of : (a : ℕ) (k : Kind) → IsHeldBy l.image taken (moved_to (given (parts_of l) r) a) k → IsHeldAt l r a k
    held_of a k h = record {
      free = h.free;
      thread = h.right.0;
      got = h.right.1;
      value =
          subst (λ (o : Option ℕ). IsSomeAnd o (λ v. HoldsValueAt l r k v 0 a)) (sym meant_is)
          (some_and _ _ (value_of k a) (given (parts_of l) r).value
          (subst (HoldsPlainIn l.image taken (moved_to (given (parts_of l) r) a) k) h.free h.right.2));
    }

    held_in : (a : ℕ) (k : Kind) → IsHeldAt l r a k → IsHeldBy l.image taken (moved_to (given (parts_of l) r) a) k
    held_in a k h = record {
      free = h.free;
      right = (
        h.thread,
        h.got,
        subst (HoldsPlainIn l.image taken (moved_to (given (parts_of l) r) a) k) (sym h.free)
            (some_and _ _ (value_in k a) (given (parts_of l) r).value
            (subst (λ (o : Option ℕ). IsSomeAnd o (λ v. HoldsValueAt l r k v 0 a)) meant_is h.value)),
      );
    }

    field_of : (at : Option ℕ) → IsListFieldIn (parts_of l) taken (framed_of l) r at → IsFrameFieldRight l r at
    field_of None h = λ begin. meant_is ∙ h begin
    field_of (Some a) h = some_and _ _ (held_of a) (kind_of r) h

    field_in : (at : Option ℕ) → IsFrameFieldRight l r at → IsListFieldIn (parts_of l) taken (framed_of l) r at
    field_in None h = λ begin. sym meant_is ∙ h begin
    field_in (Some a) h = some_and _ _ (held_in a) (kind_of r) h

  -- all of them, but for those of sections that are left out
  pub all_right :
      All (IsRightUnlessOut (parts_of l) taken (framed_of l) l.certificate.frames l.certificate.drops) (relocations (objects_of l)) ↔ All (IsRightInList l) (relocations_of l)
  all_right = (
    λ all.
        (passing (IsRightInList l) (is_in_image_too l) (relocations (objects_of l))).1
        (All-weaker (IsRightUnlessOut (parts_of l) taken (framed_of l) l.certificate.frames l.certificate.drops) (λ r. is_in_image_too l r ≡ true → IsRightInList l r)
        (λ r h there listed. field_of r (frame_at l r.object r.section r.entry.r_offset) (h.right there listed)) (relocations (objects_of l)) all),
    λ all.
        All-weaker (λ r. is_in_image_too l r ≡ true → IsRightInList l r) (IsRightUnlessOut (parts_of l) taken (framed_of l) l.certificate.frames l.certificate.drops)
        (λ r h. record { right = λ there listed. field_in r (frame_at l r.object r.section r.entry.r_offset) (h there listed) })
        (relocations (objects_of l)) ((passing (IsRightInList l) (is_in_image_too l) (relocations (objects_of l))).0 all),
  )
