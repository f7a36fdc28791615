-- What one entry asks, by what its symbol means, is what is asked of its relocation.
use Rattle.std.proofs.Common.{◌≡◌, ℕ, suc, ◌+◌, ◌-◌, ◌*◌, ◌/◌, ◌%◌, ◌^◌, ◌≤◌, ℤ, pos, negsuc, ◌+ℤ◌, ◌-ℤ◌, ◌&&◌, Bool, true, false, not, Option, Some, None, refl, sym, ap, subst, ◌∙◌, arith, div-add-mod'}
use Rattle.std.specs.Prelude.{IfSome, IsSomeAnd, SomeIff, option_map, unwrap_or}
use Rattle.std.proofs.Math.Nat.{add-mul-mod_self_right}
use Rattle.std.proofs.lemmas.Bool.{and_from, and_parts, false≢true}
use Rattle.std.proofs.lemmas.Int.{ints}
use Rattle.elf_model.proofs.WrappedValues.{modulo_is}
use Rattle.elf_model.specs.Link.Loading.{LoadedObject}
use Rattle.elf_model.specs.Inputs.ObjectFile.{rela_symbol, rela_type, section, sections}
use Rattle.elf_model.specs.Link.Placement.{got_start, section_address}
use Rattle.elf_model.specs.Link.Relocation as relocation
use Rattle.elf_model.specs.Link.Relocation.{IsInRange, IsMismatch, Kind, RefersToDropped, Relocation, Terms, is_frame_of_dropped, kind_of, modulo_64, relocation_of, symbol_at, whole_value}
use Rattle.elf_model.specs.Link.RelocationValues.{terms_of, value_of}
use Rattle.elf_model.specs.Link.Slots.{slot_address}
use Rattle.elf_model.specs.Link.ThreadStorage.{block_in}
use Rattle.elf_model.specs.declared.records.Rela.{Rela}
use Rattle.check_relocs.specs.Bindings.{Bound, IsTargetOf}
use Rattle.check_relocs.specs.Fields.{IsRight, field_of}
use Rattle.check_relocs.specs.LawfulFields.{IsRightWith, field_with, is_frames, refers_to_dropped, terms_with, value_with}
use Rattle.check_link.specs.ThreadStorage.{pointer_of, thread_pointer}
use Rattle.check_relocs.specs.declared.fields.Field.{Field}
use Rattle.check_relocs.specs.declared.lawful_fields.LinkTerms.{LinkTerms}
use Rattle.check_relocs.specs.declared.lawful_fields.Relocated.{Relocated}
use Rattle.check_relocs.specs.declared.targets.Target.{Target}

-- Values modulo 2 ^ 64 of terms modulo 2 ^ 64.

-- a multiple of 2 ^ 64 more
turned : (v : ℤ) (k : ℕ) → modulo_64 (v +ℤ pos (k * 2 ^ 64)) ≡ modulo_64 v
turned (pos n) k =
    modulo_is (pos n +ℤ pos (k * 2 ^ 64)) 0 (n + k * 2 ^ 64) (omega (arith, ints))
    ∙ (add-mul-mod_self_right n k (2 ^ 64) ∙ sym (modulo_is (pos n) 0 n (omega (arith, ints))))
turned (negsuc n) k =
    let more : ℕ = suc n * 2 ^ 64 - suc n in
    modulo_is (negsuc n +ℤ pos (k * 2 ^ 64)) (suc n) (more + k * 2 ^ 64) (omega (arith, ints))
    ∙ (add-mul-mod_self_right more k (2 ^ 64) ∙ sym (modulo_is (negsuc n) (suc n) more (omega (arith, ints))))

sum_of : (n m : ℕ) (a : ℤ) → m ≡ n % 2 ^ 64 → modulo_64 (pos m +ℤ a) ≡ modulo_64 (pos n +ℤ a)
sum_of n m a e =
    let whole = div-add-mod' n (2 ^ 64) in
    let same : (pos m +ℤ a) +ℤ pos (n / 2 ^ 64 * 2 ^ 64) ≡ pos n +ℤ a = omega (arith, ints, whole, e) in
    sym (turned (pos m +ℤ a) (n / 2 ^ 64)) ∙ ap modulo_64 same

less_more :
    (v : ℤ) (p q : ℕ) → q ≡ p % 2 ^ 64 → modulo_64 (v -ℤ pos q) ≡ modulo_64 (v -ℤ pos p)
less_more v p q f =
    let from_p = div-add-mod' p (2 ^ 64) in
    let same : v -ℤ pos q ≡ (v -ℤ pos p) +ℤ pos (p / 2 ^ 64 * 2 ^ 64) = omega (arith, ints, from_p, f) in
    ap modulo_64 same ∙ turned (v -ℤ pos p) (p / 2 ^ 64)

base_more :
    (n m : ℕ) (a : ℤ) (q : ℕ) → m ≡ n % 2 ^ 64 → modulo_64 ((pos m +ℤ a) -ℤ pos q) ≡ modulo_64 ((pos n +ℤ a) -ℤ pos q)
base_more n m a q e =
    let whole = div-add-mod' n (2 ^ 64) in
    let same : ((pos m +ℤ a) -ℤ pos q) +ℤ pos (n / 2 ^ 64 * 2 ^ 64) ≡ (pos n +ℤ a) -ℤ pos q = omega (arith, ints, whole, e) in
    sym (turned ((pos m +ℤ a) -ℤ pos q) (n / 2 ^ 64)) ∙ ap modulo_64 same

difference_of :
    (n m : ℕ) (a : ℤ) (p q : ℕ) → m ≡ n % 2 ^ 64 → q ≡ p % 2 ^ 64 → modulo_64 ((pos m +ℤ a) -ℤ pos q) ≡ modulo_64 ((pos n +ℤ a) -ℤ pos p)
difference_of n m a p q e f = base_more n m a q e ∙ less_more (pos n +ℤ a) p q f

offset_of :
    (n m : ℕ) (a : ℤ) (p q : ℕ) → m ≡ n % 2 ^ 64 → q ≡ p % 2 ^ 64 → modulo_64 ((pos m -ℤ pos q) +ℤ a) ≡ modulo_64 ((pos n -ℤ pos p) +ℤ a)
offset_of n m a p q e f =
    let turned_q : (pos m -ℤ pos q) +ℤ a ≡ (pos m +ℤ a) -ℤ pos q = omega (arith, ints) in
    let turned_p : (pos n +ℤ a) -ℤ pos p ≡ (pos n -ℤ pos p) +ℤ a = omega (arith, ints) in
    ap modulo_64 turned_q ∙ difference_of n m a p q e f ∙ ap modulo_64 turned_p

-- terms, of which the symbol's value, the place and the thread pointer count modulo 2 ^ 64
abbrev pub with_reduced : Terms → ℕ → ℕ → ℕ → Terms
with_reduced x s p pointer = record x { s = s; p = p; t = pos s -ℤ pos pointer }

pub reduced :
    (f : relocation.Formula) (x : Terms) (pointer s p reduced : ℕ) → x.t ≡ pos x.s -ℤ pos pointer → s ≡ x.s % 2 ^ 64 → p ≡ x.p % 2 ^ 64 →
    reduced ≡ pointer % 2 ^ 64 → modulo_64 (whole_value f (with_reduced x s p reduced)) ≡ modulo_64 (whole_value f x)
reduced relocation.S+A x pointer s p r t e g h = sum_of x.s s x.a e
reduced relocation.S+A-P x pointer s p r t e g h = difference_of x.s s x.a x.p p e g
reduced relocation.S+A-GOT x pointer s p r t e g h = base_more x.s s x.a x.got e
reduced relocation.G+A x pointer s p r t e g h = refl
reduced relocation.G+GOT+A-P x pointer s p r t e g h = less_more (pos (x.g + x.got) +ℤ x.a) x.p p g
reduced relocation.GOT+A-P x pointer s p r t e g h = less_more (pos x.got +ℤ x.a) x.p p g
reduced relocation.Z+A x pointer s p r t e g h = refl
reduced relocation.T+A x pointer s p r t e g h = offset_of x.s s x.a pointer r e h ∙ ap (λ (z : ℤ). modulo_64 (z +ℤ x.a)) (sym t)
reduced relocation.GT+GOT+A-P x pointer s p r t e g h = less_more (pos (x.g + x.got) +ℤ x.a) x.p p g

not_true : (b : Bool) → (b ≡ true → ⊥) → b ≡ false
not_true true never = absurd (never refl)
not_true false never = refl

false_of_not : (b : Bool) → not b ≡ true → b ≡ false
false_of_not true e = absurd (false≢true e)
false_of_not false e = refl

not_both : (b : Bool) → b ≡ false → b ≡ true → ⊥
not_both b e f = false≢true (sym e ∙ f)

module _ (b : Bound) (n : ℕ) (o : LoadedObject) (to : Relocated) (g : LinkTerms) (e : Rela) (t : Target) (means : IsTargetOf b (symbol_at n o (rela_symbol e)) t) (size : to.size ≡ (section (sections o.bytes) to.section).sh_size) (frames : to.frames ≡ is_frames o.bytes to.section) (address : to.address ≡ section_address b.places.placed n to.section) (slot : g.slot ≡ slot_address b.places.slots (relocation_of n o to.section e) - got_start b.places.got) (got : g.got ≡ got_start b.places.got) (pointer : g.thread_pointer ≡ thread_pointer b.places.placed) where
  abbrev pub r : Relocation
  r = relocation_of n o to.section e

  place_is : (to.address + e.r_offset) % 2 ^ 64 ≡ (section_address b.places.placed n to.section + e.r_offset) % 2 ^ 64
  place_is = ap (λ (x : ℕ). (x + e.r_offset) % 2 ^ 64) address

  abbrev x : Terms
  x = terms_of b.objects b.places r

  made_terms : ℕ → ℕ → ℕ → Terms
  made_terms i j z = record {
    s = t.value;
    a = e.r_addend;
    p = (to.address + e.r_offset) % 2 ^ 64;
    g = i;
    got = j;
    z = z;
    t = pos t.value -ℤ pos g.thread_pointer;
  }

  terms_are : terms_with t to g e ≡ with_reduced x t.value ((to.address + e.r_offset) % 2 ^ 64) g.thread_pointer
  unfolding made_terms
  terms_are = let all : made_terms g.slot g.got t.size ≡ made_terms x.g x.got x.z = cc3 g.slot g.got t.size x.g x.got x.z slot got means.size in all
    where
      cc3 : (i j z k l y : ℕ) → i ≡ k → j ≡ l → z ≡ y → made_terms i j z ≡ made_terms k l y
      cc3 i j z k l y p q s = cc

  value_by : (k : Option Kind) → value_with k t to g e ≡ unwrap_or (option_map (λ j. modulo_64 (whole_value j.formula x)) k) 0
  value_by None = refl
  value_by (Some k) =
      ap (λ (y : Terms). modulo_64 (whole_value k.formula y)) terms_are
      ∙ reduced k.formula x (pointer_of (block_in b.places)) t.value ((to.address + e.r_offset) % 2 ^ 64) g.thread_pointer refl means.value place_is pointer

  pub value_is : value_with (kind_of (rela_type e)) t to g e ≡ value_of b.objects b.places r
  value_is = value_by (kind_of (rela_type e))

  made : ℕ → Field
  made v = record { section = to.section; at = e.r_offset; width = relocation.width_of r; value = v }

  pub field_is : field_with (kind_of (rela_type e)) t to g e ≡ field_of b.objects b.places r
  unfolding made
  field_is = ap made value_is

  frame_is : (t.dropped && to.frames) ≡ is_frame_of_dropped r
  frame_is = ap (λ (b : Bool). b && to.frames) means.dropped ∙ ap (λ (b : Bool). r.symbol.dropped && b) frames

  refers_is : refers_to_dropped t to ≡ (t.unkept && not (is_frame_of_dropped r))
  refers_is = ap (λ (b : Bool). t.unkept && not b) frame_is

  -- where entries refer to what isn't kept by the symbol and the section, the relocation does
  pub refers : refers_to_dropped t to ≡ true → RefersToDropped b.objects r
  refers told =
      let both = and_parts t.unkept (not (is_frame_of_dropped r)) (sym refers_is ∙ told) in
      let local = means.unkept.0 both.0 in
      (local.0, false_of_not (is_frame_of_dropped r) both.1, local.1)

  pub refers_so : RefersToDropped b.objects r → refers_to_dropped t to ≡ true
  refers_so h = refers_is ∙ and_from t.unkept (not (is_frame_of_dropped r)) (means.unkept.1 (h.0, h.2)) (ap not h.1)

  pub right : IsRightWith (kind_of (rela_type e)) t to g e → IsRight b.objects b.places r
  right w = record {
    lawful = record {
      known = w.known;
      defined = λ u. not_both t.undefined w.defined (means.undefined.1 u);
      kept = λ u. not_both (refers_to_dropped t to) w.kept (refers_so u);
      thread = λ m. w.thread (subst (λ (x : Bool). IsSomeAnd (kind_of (rela_type e)) (λ k. IsMismatch k.formula x)) (sym means.thread_local) m);
      inside = subst (λ (x : ℕ). IfSome (kind_of (rela_type e)) (λ k. e.r_offset + k.width ≤ x)) size w.inside;
      unmixed = λ u. not_both t.mixed w.unmixed (means.mixed.1 u);
    };
    fits = subst (λ (v : ℕ). IfSome (kind_of (rela_type e)) (λ k. IsInRange k.range (8 * k.width) v)) value_is w.fits;
  }

  pub right_with : IsRight b.objects b.places r → IsRightWith (kind_of (rela_type e)) t to g e
  right_with w = record {
    known = w.lawful.known;
    defined = not_true t.undefined (λ u. w.lawful.defined (means.undefined.0 u));
    kept = not_true (refers_to_dropped t to) (λ u. w.lawful.kept (refers u));
    thread = λ m. w.lawful.thread (subst (λ (x : Bool). IsSomeAnd (kind_of (rela_type e)) (λ k. IsMismatch k.formula x)) means.thread_local m);
    inside = subst (λ (x : ℕ). IfSome (kind_of (rela_type e)) (λ k. e.r_offset + k.width ≤ x)) (sym size) w.lawful.inside;
    unmixed = not_true t.mixed (λ u. w.lawful.unmixed (means.mixed.0 u));
    fits = subst (λ (v : ℕ). IfSome (kind_of (rela_type e)) (λ k. IsInRange k.range (8 * k.width) v)) (sym value_is) w.fits;
  }

-- where another claim and another value are the same
pub some_iff :
    {X : Type 0} (P Q : Type 0) (v w : X) (o : Option X) → (P → Q) → (Q → P) → v ≡ w → SomeIff o P v → SomeIff o Q w
some_iff P Q v w None there back e h = λ q. h (back q)
some_iff P Q v w (Some x) there back e h = (there h.0, h.1 ∙ e)
