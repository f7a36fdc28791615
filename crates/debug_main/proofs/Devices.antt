-- What a device has taken of bytes that are put one part after the other.
use Rattle.std.proofs.Common.{ℕ, List, [], ◌++◌, refl, sym, ◌∙◌, ap, append_assoc}
use Rattle.std.specs.Prelude.{Option}
use Rattle.std.proofs.lemmas.List.{append-nil}
use Rattle.image_write.proofs.StreamLaws.{took_more, took_nothing}
use Rattle.image_write.specs.Streams.{Took, TookPart}

-- nothing of them, or all
pub part_none : (t : Option (List ℕ)) (bytes : List ℕ) → TookPart t bytes t
part_none t bytes = record { front = []; rest = bytes; parts = refl; took = took_nothing t }

pub part_all : (a b : Option (List ℕ)) (bytes : List ℕ) → Took a bytes b → TookPart a bytes b
part_all a b bytes all = record { front = bytes; rest = []; parts = sym (append-nil bytes); took = all }

-- a part of what comes first, or all of that and a part of the rest
pub part_first : (a b : Option (List ℕ)) (x y : List ℕ) → TookPart a x b → TookPart a (x ++ y) b
part_first a b x y part = record {
  front = part.front;
  rest = part.rest ++ y;
  parts = ap (λ (l : List ℕ). l ++ y) part.parts ∙ append_assoc part.front part.rest y;
  took = part.took;
}

pub part_then : (a b c : Option (List ℕ)) (x y : List ℕ) → Took a x b → TookPart b y c → TookPart a (x ++ y) c
part_then a b c x y first part = record {
  front = x ++ part.front;
  rest = part.rest;
  parts = ap (λ (l : List ℕ). x ++ l) part.parts ∙ sym (append_assoc x part.front part.rest);
  took = took_more a b c x part.front first part.took;
}
