-- What a device has taken of an image that is put behind an empty buffer.
use Rattle.std.proofs.Common.{◌≡◌, ◌+◌, List, ℕ, [], ◌++◌, sym, ◌∙◌, ap, subst}
use Rattle.std.specs.Prelude.{Err, IfErr, Option, Result}
use Rattle.std.proofs.lemmas.List.{append-nil}
use Rattle.image_write.specs.Streams.{Breaks, Grows, Stream, Took, TookPart, WriteFails}
use Rattle.image_write.specs.declared.sink.WriteFault.{WriteFault}
use Rattle.image_write.specs.declared.sink.WriteFault.TheVariants.{Device}

-- all of it, where the buffer is empty again
pub took_all : (s u : Stream) (image : List ℕ) → s.held ≡ [] → u.held ≡ [] → Grows s image u → Took s.told image u.told
took_all s u image before after g =
    let all : g.moves.front ≡ image =
    sym (append-nil g.moves.front)
    ∙ (ap (λ (xs : List ℕ). g.moves.front ++ xs) (sym after) ∙ (sym g.moves.parts ∙ ap (λ (xs : List ℕ). xs ++ image) before)) in
    subst (λ (xs : List ℕ). Took s.told xs u.told) all g.moves.took

-- the first of it, where the device has failed
pub took_part : (s u : Stream) (image : List ℕ) → s.held ≡ [] → Breaks s image u → TookPart s.told image u.told
took_part s u image before b = record {
  front = b.moves.front;
  rest = b.rest;
  parts = sym (ap (λ (xs : List ℕ). xs ++ image) before) ∙ b.moves.parts;
  took = b.moves.took;
}

pub device_fault :
    {X : Type 0} (old new : Option (List ℕ)) (failed later : ℕ) (image : List ℕ) (r : Result X WriteFault) →
    (e : WriteFault) × (r ≡ Err e) × (e ≡ Device) → TookPart old image new → later ≡ failed + 1 → IfErr r (WriteFails old failed image new later)
device_fault {X} old new failed later image r is took count =
    subst (λ (s : Result X WriteFault). IfErr s (WriteFails old failed image new later)) (sym is.1)
    (subst (WriteFails old failed image new later) (sym is.2) (took, count))

-- so where the device has failed after the first of it
pub part_fault :
    {X : Type 0} (s u : Stream) (image : List ℕ) (r : Result X WriteFault) →
    (e : WriteFault) × (r ≡ Err e) × (e ≡ Device) → s.held ≡ [] → Breaks s image u → IfErr r (WriteFails s.told s.failed image u.told u.failed)
part_fault s u image r is before b = device_fault s.told u.told s.failed u.failed image r is (took_part s u image before b) b.failed
