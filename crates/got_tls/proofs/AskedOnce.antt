-- What relocations ask for one after the other is what the definitions say.
use Rattle.std.proofs.Common.{◌≡◌, ℕ, length, Bool, true, false, not, cond, ◌&&◌, ◌||◌, List, [], ◌∷◌, ◌++◌, Option, None, Some, append-nil, append_assoc, refl, sym, ap, ◌∙◌}
use Rattle.std.specs.Prelude.{filter}
use Rattle.std.specs.List.{cons_option, filter_map, list_any}
use Rattle.std.proofs.Math.Bool.{or_assoc}
use Rattle.std.proofs.lemmas.List.Elements.{filter_agree}
use Rattle.std.proofs.lemmas.List.Folds.{list_any-append}
use Rattle.elf_model.specs.Link.Loading.{LoadedObject}
use Rattle.elf_model.specs.Link.Relocation.{Relocation, relocations}
use Rattle.elf_model.specs.Link.Slots.{Request, asks_for_got, each_once, got_size, has_got, request_of, same_request, size_with, slots}
use Rattle.got_tls.specs.Asking.{Wants, nothing, with_relocation, with_relocations, with_request}
use Rattle.got_tls.specs.AskedViews.{wants}
use Rattle.got_tls.specs.declared.asked_slots.Asked.{Asked}
use Rattle.elf_model.proofs.SameRequests.{requests_equal, same_sym}

-- relocations behind relocations
pub behind : (L : List LoadedObject) (w : Wants) (rs ss : List Relocation) → with_relocations L w (rs ++ ss) ≡ with_relocations L (with_relocations L w rs) ss
behind L w [] ss = refl
behind L w (r ∷ rs) ss = behind L (with_relocation L w r) rs ss

-- the objects stay
objects_of : (L : List LoadedObject) (w : Wants) (rs : List Relocation) → (with_relocations L w rs).objects ≡ w.objects
objects_of L w [] = refl
objects_of L w (r ∷ rs) = objects_of L (with_relocation L w r) rs

pub objects_kept : (L : List LoadedObject) (v w : Wants) (rs ss : List Relocation) → with_relocations L v rs ≡ with_relocations L w ss → v.objects ≡ w.objects
objects_kept L v w rs ss same = sym (objects_of L v rs) ∙ (ap (λ (x : Wants). x.objects) same ∙ objects_of L w ss)

-- whether a GOT is asked for
got_after : (L : List LoadedObject) (w : Wants) (rs : List Relocation) → (with_relocations L w rs).got ≡ (w.got || list_any (asks_for_got L) rs)
got_after L w [] = by w.got
  where
    by : (b : Bool) → b ≡ (b || false)
    by true = refl
    by false = refl
got_after L w (r ∷ rs) = got_after L (with_relocation L w r) rs ∙ or_assoc w.got (asks_for_got L r) (list_any (asks_for_got L) rs)

-- requests that aren't among others
abbrev is_new : List Request → Request → Bool
is_new qs s = not (list_any (same_request s) qs)

-- a filter behind a filter
filter_both : (p q : Request → Bool) (xs : List Request) → filter p (filter q xs) ≡ filter (λ s. q s && p s) xs
filter_both p q [] = refl
filter_both p q (x ∷ xs) = by (q x) (filter_both p q xs)
  where
    by : (b : Bool) → filter p (filter q xs) ≡ filter (λ s. q s && p s) xs →
        filter p (cond b (x ∷ filter q xs) (filter q xs)) ≡ cond (b && p x) (x ∷ filter (λ s. q s && p s) xs) (filter (λ s. q s && p s) xs)
    by true rest = ap (λ (ys : List Request). cond (p x) (x ∷ ys) ys) rest
    by false rest = rest

-- of the others those that aren't one that is among some are as many as those that aren't among these
known_left : (qs : List Request) (r : Request) → list_any (same_request r) qs ≡ true → (s : Request) → (not (same_request r s) && is_new qs s) ≡ is_new qs s
known_left qs r there s = by (same_request r s) refl
  where
    by : (b : Bool) → same_request r s ≡ b → (not b && is_new qs s) ≡ is_new qs s
    by true e = sym (ap not (ap (λ (t : Request). list_any (same_request t) qs) (sym (requests_equal r s e)) ∙ there))
    by false e = refl

new_left : (qs : List Request) (r s : Request) → (not (same_request r s) && is_new qs s) ≡ is_new (qs ++ r ∷ []) s
new_left qs r s =
    ap (λ (b : Bool). not b && is_new qs s) (same_sym r s)
    ∙ (by (same_request s r) (list_any (same_request s) qs) ∙ ap not (sym (list_any-append (same_request s) qs (r ∷ []))))
  where
    by : (a b : Bool) → (not a && not b) ≡ not (b || (a || false))
    by true true = refl
    by true false = refl
    by false true = refl
    by false false = refl

-- the slots
slots_after :
    (L : List LoadedObject) (w : Wants) (rs : List Relocation) →
    (with_relocations L w rs).slots ≡ w.slots ++ filter (is_new w.slots) (each_once (filter_map request_of rs))
slots_after L w [] = sym (append-nil w.slots)
slots_after L w (r ∷ rs) = slots_after L (with_relocation L w r) rs ∙ by w.slots (request_of r)
  where
    once : List Request
    once = each_once (filter_map request_of rs)

    others : Request → List Request
    others q = filter (λ s. not (same_request q s)) once

    known : (qs : List Request) (q : Request) → list_any (same_request q) qs ≡ true → filter (is_new qs) once ≡ filter (is_new qs) (others q)
    known qs q e =
        sym (filter_both (is_new qs) (λ s. not (same_request q s)) once
        ∙ filter_agree (λ s. not (same_request q s) && is_new qs s) (is_new qs) (known_left qs q e) once)

    new : (qs : List Request) (q : Request) → filter (is_new (qs ++ q ∷ [])) once ≡ filter (is_new qs) (others q)
    new qs q =
        sym (filter_both (is_new qs) (λ s. not (same_request q s)) once
        ∙ filter_agree (λ s. not (same_request q s) && is_new qs s) (is_new (qs ++ q ∷ [])) (new_left qs q) once)

    one : (qs : List Request) (q : Request) (b : Bool) → list_any (same_request q) qs ≡ b →
        cond b qs (qs ++ q ∷ []) ++ filter (is_new (cond b qs (qs ++ q ∷ []))) once
        ≡ qs ++ cond (not b) (q ∷ filter (is_new qs) (others q)) (filter (is_new qs) (others q))
    one qs q true e = ap (λ (ss : List Request). qs ++ ss) (known qs q e)
    one qs q false e =
        append_assoc qs (q ∷ []) (filter (is_new (qs ++ q ∷ [])) once)
        ∙ ap (λ (ss : List Request). qs ++ q ∷ ss) (new qs q)

    by : (qs : List Request) (o : Option Request) →
        with_request qs o ++ filter (is_new (with_request qs o)) once ≡ qs ++ filter (is_new qs) (each_once (cons_option o (filter_map request_of rs)))
    by qs None = refl
    by qs (Some q) = one qs q (list_any (same_request q) qs) refl

all_new : (qs : List Request) → filter (is_new []) qs ≡ qs
all_new [] = refl
all_new (q ∷ qs) = ap (λ (ss : List Request). q ∷ ss) (all_new qs)

module _ (L : List LoadedObject) where
  pub objects_are : (with_relocations L (nothing L) (relocations L)).objects ≡ L
  objects_are = objects_of L (nothing L) (relocations L)

  pub slots_are : (with_relocations L (nothing L) (relocations L)).slots ≡ slots L
  slots_are = slots_after L (nothing L) (relocations L) ∙ all_new (slots L)

  pub got_is : (with_relocations L (nothing L) (relocations L)).got ≡ has_got L
  got_is = got_after L (nothing L) (relocations L)

-- what relocations ask for, taken in before the rest
pub taken :
    (L : List LoadedObject) (old new all : Wants) (here rest left : List Relocation) → new ≡ with_relocations L old here → left ≡ here ++ rest →
    with_relocations L old left ≡ all → with_relocations L new rest ≡ all
taken L old new all here rest left grown is whole =
    ap (λ (w : Wants). with_relocations L w rest) grown
    ∙ (sym (behind L old here rest) ∙ (ap (with_relocations L old) (sym is) ∙ whole))

-- the size of the GOT that was asked for
pub size_is :
    (L : List LoadedObject) (a : Asked) → wants a ≡ with_relocations L (nothing L) (relocations L) →
    cond a.got (size_with (length a.listed.slots)) 0 ≡ got_size L
size_is L a e =
    ap (λ (w : Wants). cond w.got (size_with (length w.slots)) 0) e
    ∙ (ap (λ (b : Bool). cond b (size_with (length (with_relocations L (nothing L) (relocations L)).slots)) 0) (got_is L)
    ∙ ap (λ (qs : List Request). cond (has_got L) (size_with (length qs)) 0) (slots_are L))
