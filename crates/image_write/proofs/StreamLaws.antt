-- Bytes put into a stream one after the other.
use Rattle.std.proofs.Common.{◌≡◌, ℕ, ◌+◌, List, [], ◌++◌, refl, sym, ◌∙◌, ap, append_assoc, subst}
use Rattle.std.specs.Prelude.{Option, Some, None, IsErr, OnErr, Result, Ok, Err}
use Rattle.std.specs.Option.{option_map}
use Rattle.std.proofs.lemmas.List.{append-nil}
use Rattle.image_write.specs.Streams.{Breaks, Grows, Moves, Puts, Stream, Took, stream}

-- a device that has taken nothing, and one that takes more
pub took_nothing : (t : Option (List ℕ)) → Took t [] t
took_nothing None = refl
took_nothing (Some t) = ap Some (sym (append-nil t))

took_by : (t : Option (List ℕ)) (x y : List ℕ) → option_map (λ u. u ++ y) (option_map (λ u. u ++ x) t) ≡ option_map (λ u. u ++ (x ++ y)) t
took_by None x y = refl
took_by (Some t) x y = ap Some (append_assoc t x y)

pub took_more : (a b c : Option (List ℕ)) (x y : List ℕ) → Took a x b → Took b y c → Took a (x ++ y) c
took_more a b c x y first second = second ∙ (ap (option_map (λ u. u ++ y)) first ∙ took_by a x y)

-- nothing is taken yet
pub moves_nothing : (s : Stream) (bytes : List ℕ) → Moves s bytes s.told (s.held ++ bytes)
moves_nothing s bytes = record { front = []; took = took_nothing s.told; parts = refl }

-- the device takes the first of what is left
pub moves_more :
    (s : Stream) (bytes : List ℕ) (told next : Option (List ℕ)) (rest more left : List ℕ) →
    Moves s bytes told rest → Took told more next → rest ≡ more ++ left → Moves s bytes next left
moves_more s bytes told next rest more left m took is = record {
  front = m.front ++ more;
  took = took_more s.told told next m.front more m.took took;
  parts = m.parts ∙ (ap (λ (xs : List ℕ). m.front ++ xs) is ∙ sym (append_assoc m.front more left));
}

-- further bytes follow
pub moves_on :
    (s : Stream) (bytes more : List ℕ) (told : Option (List ℕ)) (rest : List ℕ) →
    Moves s bytes told rest → Moves s (bytes ++ more) told (rest ++ more)
moves_on s bytes more told rest m = record {
  front = m.front;
  took = m.took;
  parts = sym (append_assoc s.held bytes more) ∙ (ap (λ (xs : List ℕ). xs ++ more) m.parts ∙ append_assoc m.front rest more);
}

-- of those that follow a stream's, the device takes more
pub moves_then :
    (s t : Stream) (bytes more : List ℕ) (told : Option (List ℕ)) (rest : List ℕ) →
    Moves s bytes t.told t.held → Moves t more told rest → Moves s (bytes ++ more) told rest
moves_then s t bytes more told rest first second =
    moves_more s (bytes ++ more) t.told told (t.held ++ more) second.front rest (moves_on s bytes more t.told t.held first) second.took second.parts

-- nothing is put
pub grows_nothing : (s : Stream) → Grows s [] s
grows_nothing s = record { moves = record { front = []; took = took_nothing s.told; parts = append-nil s.held }; failed = refl }

-- bytes put after others
pub grows_then : (s t u : Stream) (bytes more : List ℕ) → Grows s bytes t → Grows t more u → Grows s (bytes ++ more) u
grows_then s t u bytes more first second = record {
  moves = moves_then s t bytes more u.told u.held first.moves second.moves;
  failed = second.failed ∙ first.failed;
}

pub breaks_then : (s t u : Stream) (bytes more : List ℕ) → Grows s bytes t → Breaks t more u → Breaks s (bytes ++ more) u
breaks_then s t u bytes more first second = record {
  rest = second.rest;
  moves = moves_then s t bytes more u.told second.rest first.moves second.moves;
  failed = second.failed ∙ ap (λ (n : ℕ). n + 1) first.failed;
}

-- a device that has failed takes nothing of what would have followed
pub breaks_on : (s u : Stream) (bytes more : List ℕ) → Breaks s bytes u → Breaks s (bytes ++ more) u
breaks_on s u bytes more b = record {
  rest = b.rest ++ more;
  moves = moves_on s bytes more u.told b.rest b.moves;
  failed = b.failed;
}

pub puts_then :
    {X E : Type 0} (s t u : Stream) (bytes more : List ℕ) (r : Result X E) → Grows s bytes t → Puts t more r u → Puts s (bytes ++ more) r u
puts_then s t u bytes more (Ok x) first second = record { grows = grows_then s t u bytes more first second.grows; breaks = tt }
puts_then s t u bytes more (Err e) first second = record { grows = tt; breaks = breaks_then s t u bytes more first second.breaks }

-- a fault that is handed on
pub puts_fault : {X E : Type 0} (s u : Stream) (bytes : List ℕ) (r : Result X E) → IsErr r → Breaks s bytes u → Puts s bytes r u
puts_fault s u bytes (Ok x) is b = cc
puts_fault s u bytes (Err e) is b = record { grows = tt; breaks = b }

-- bytes that go straight to the device, behind an empty buffer
pub puts_straight :
    {X E : Type 0} (s : Stream) (told next : Option (List ℕ)) (held : List ℕ) (failed later : ℕ) (bytes more : List ℕ) (r : Result X E) →
    held ≡ [] → Grows s bytes (stream told held failed) → Puts (stream told [] failed) more r (stream next [] later) →
    Puts s (bytes ++ more) r (stream next held later)
puts_straight s told next held failed later bytes more r empty first second =
    puts_then s (stream told held failed) (stream next held later) bytes more r first
    (subst (λ (h : List ℕ). Puts (stream told h failed) more r (stream next h later)) (sym empty) second)

-- room is made between
pub grows_between : (s t u : Stream) (bytes : List ℕ) → Grows s bytes t → Grows t [] u → Grows s bytes u
grows_between s t u bytes first second =
    subst (λ (xs : List ℕ). Grows s xs u) (append-nil bytes) (grows_then s t u bytes [] first second)

pub breaks_between : (s t u : Stream) (bytes : List ℕ) → Grows s bytes t → Breaks t [] u → Breaks s bytes u
breaks_between s t u bytes first second =
    subst (λ (xs : List ℕ). Breaks s xs u) (append-nil bytes) (breaks_then s t u bytes [] first second)

-- bytes that go into the buffer
pub grows_held :
    (s : Stream) (told : Option (List ℕ)) (held next : List ℕ) (failed : ℕ) (bytes more : List ℕ) →
    next ≡ held ++ more → Grows s bytes (stream told held failed) → Grows s (bytes ++ more) (stream told next failed)
grows_held s told held next failed bytes more is g = record {
  moves = subst (Moves s (bytes ++ more) told) (sym is) (moves_on s bytes more told held g.moves);
  failed = g.failed;
}

-- the bytes, said otherwise
pub puts_are : {X E : Type 0} (s u : Stream) (xs ys : List ℕ) (r : Result X E) → xs ≡ ys → Puts s xs r u → Puts s ys r u
puts_are s u xs ys r e p = subst (λ (bs : List ℕ). Puts s bs r u) e p

pub grows_are : (s u : Stream) (xs ys : List ℕ) → xs ≡ ys → Grows s xs u → Grows s ys u
grows_are s u xs ys e g = subst (λ (bs : List ℕ). Grows s bs u) e g

-- what holds whatever the answer is
pub whatever : {X E : Type 0} (P : Type 0) (r : Result X E) → P → OnErr r P
whatever P (Ok x) p = tt
whatever P (Err e) p = p

pub breaks_are : (s u : Stream) (xs ys : List ℕ) → xs ≡ ys → Breaks s xs u → Breaks s ys u
breaks_are s u xs ys e b = subst (λ (bs : List ℕ). Breaks s bs u) e b
