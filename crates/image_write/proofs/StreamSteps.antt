-- Bytes that are put into a stream part by part: what is put so far, and what is left of the whole.
use Rattle.std.proofs.Common.{◌≡◌, ℕ, ◌+◌, ◌<◌, ◌≤◌, List, [], ◌++◌, drop, get_or, length, refl, sym, ◌∙◌, ap, append_assoc, subst}
use Rattle.std.specs.Prelude.{IsErr, Result}
use Rattle.std.specs.List.{flat_map}
use Rattle.std.proofs.lemmas.List.{append-nil, drop_all}
use Rattle.elf_model.proofs.Rests.{rest_at}
use Rattle.image_write.specs.Streams.{Breaks, Grows, Puts, Stream}
use Rattle.image_write.proofs.StreamLaws.{breaks_on, breaks_then, grows_are, grows_nothing, grows_then, puts_are, puts_fault, puts_then}

-- of the whole, all but the rest is put
pub record Towards (s : Stream) (whole rest : List ℕ) (t : Stream) : Type 0 where
  pub done : List ℕ
  pub grows : Grows s done t
  pub parts : done ++ rest ≡ whole

pub towards_nothing : (s : Stream) (whole : List ℕ) → Towards s whole whole s
towards_nothing s whole = record { done = []; grows = grows_nothing s; parts = refl }

-- the first of what is left is put
pub towards_more :
    (s t u : Stream) (whole rest part left : List ℕ) → Towards s whole rest t → rest ≡ part ++ left → Grows t part u → Towards s whole left u
towards_more s t u whole rest part left w is g = record {
  done = w.done ++ part;
  grows = grows_then s t u w.done part w.grows g;
  parts = append_assoc w.done part left ∙ (ap (λ (xs : List ℕ). w.done ++ xs) (sym is) ∙ w.parts);
}

-- what is left, said otherwise
pub towards_is : (s t : Stream) (whole xs ys : List ℕ) → xs ≡ ys → Towards s whole xs t → Towards s whole ys t
towards_is s t whole xs ys e w = subst (λ (rest : List ℕ). Towards s whole rest t) e w

-- all that is left
pub towards_last :
    {X E : Type 0} (s t u : Stream) (whole rest : List ℕ) (r : Result X E) → Towards s whole rest t → Puts t rest r u → Puts s whole r u
towards_last s t u whole rest r w p = puts_are s u (w.done ++ rest) whole r w.parts (puts_then s t u w.done rest r w.grows p)

pub towards_end : (s t : Stream) (whole : List ℕ) → Towards s whole [] t → Grows s whole t
towards_end s t whole w = grows_are s t w.done whole (sym (append-nil w.done) ∙ w.parts) w.grows

-- the device fails within a part
pub towards_fault :
    {X E : Type 0} (s t u : Stream) (whole rest part left : List ℕ) (r : Result X E) →
    Towards s whole rest t → rest ≡ part ++ left → IsErr r → Breaks t part u → Puts s whole r u
towards_fault s t u whole rest part left r w is err b =
    let whole_is : w.done ++ (part ++ left) ≡ whole = ap (λ (xs : List ℕ). w.done ++ xs) (sym is) ∙ w.parts in
    puts_are s u (w.done ++ (part ++ left)) whole r whole_is
    (puts_fault s u (w.done ++ (part ++ left)) r err
    (breaks_then s t u w.done (part ++ left) w.grows (breaks_on t u part left b)))

-- parts that come from the elements of a list
pub parts_left :
    {A : Type 0} (f : A → List ℕ) (xs : List A) (i : ℕ) (d : A) → i < length xs →
    flat_map f (drop i xs) ≡ f (get_or xs i d) ++ flat_map f (drop (i + 1) xs)
parts_left f xs i d within = ap (flat_map f) (rest_at xs i d within)

pub parts_end :
    {A : Type 0} (f : A → List ℕ) (s t : Stream) (whole : List ℕ) (xs : List A) (i : ℕ) → length xs ≤ i →
    Towards s whole (flat_map f (drop i xs)) t → Grows s whole t
parts_end f s t whole xs i behind w =
    towards_end s t whole (subst (λ (rest : List ℕ). Towards s whole rest t) (ap (flat_map f) (drop_all i xs behind)) w)
