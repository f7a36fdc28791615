-- The first members of a file that was read in part, and one more.
use Rattle.std.proofs.Common.{◌≡◌, ℕ, suc, ◌+◌, ◌%◌, ◌<◌, ◌≤◌, ◌^◌, List, [], ◌∷◌, ◌++◌, append_assoc, append-nil, length, map, drop, drop-cons, get_or, replicate, refl, sym, ◌∙◌, ap, subst, arith}
use Rattle.std.specs.Prelude.{All}
use Rattle.std.specs.List.{concat}
use Rattle.std.proofs.lemmas.List.{drop_all, length-append, length-replicate}
use Rattle.std.proofs.lemmas.List.Elements.{All-push, All-weaker}
use Rattle.byteview.specs.Numbers.{part}
use Rattle.elf_model.specs.Inputs.ArchiveFile.{StoredMember, number}
use Rattle.ar_index.specs.Parts.{AreKeptParts, HasZerosFor, IsHeader, IsKeptPart, IsPart, Part, part_bytes, part_size, part_text, stored_part, stored_parts, unread_part}
use Rattle.ar_index.proofs.PartLaws.{bytes_length, text_length}

-- after the first i members the next one is stored at an offset
pub record AreStoredSoFar (ps : List Part) (i : ℕ) (stored : List StoredMember) (at : ℕ) : Type 0 where
  pub members : stored ++ stored_parts at (drop i ps) ≡ stored_parts 8 ps
  pub total : at + length (concat (map part_text (drop i ps))) ≡ length (part_bytes ps)
  pub small : at < 2 ^ 32

pub none_stored : (ps : List Part) (stored : List StoredMember) → stored ≡ [] → AreStoredSoFar ps 0 stored 8
none_stored ps stored none = record {
  members = ap (λ (ms : List StoredMember). ms ++ stored_parts 8 ps) none;
  total = sym (bytes_length ps);
  small = omega arith;
}

module _ (ps : List Part) (i : ℕ) (d p : Part) (stored : List StoredMember) (at : ℕ) (so_far : AreStoredSoFar ps i stored at) (within : i < length ps) (is : p ≡ get_or ps i d) (good : IsPart p) where
  front : drop i ps ≡ p ∷ drop (suc i) ps
  front = drop-cons ps i d within ∙ ap (λ (q : Part). q ∷ drop (suc i) ps) (sym is)

  -- where the next one is stored
  pub next_total : (next : ℕ) → next ≡ at + 60 + part_size p + part_size p % 2 → next + length (concat (map part_text (drop (i + 1) ps))) ≡ length (part_bytes ps)
  next_total next next_is =
      let e : i + 1 ≡ suc i = omega arith in
      let texts = concat (map part_text (drop (suc i) ps)) in
      let long = length-append (part_text p) texts in
      let own = text_length p good in
      let was : at + length (part_text p ++ texts) ≡ length (part_bytes ps) =
      ap (λ (qs : List Part). at + length (concat (map part_text qs))) (sym front) ∙ so_far.total in
      ap (λ (k : ℕ). next + length (concat (map part_text (drop k ps)))) e ∙ omega (arith, long, own, was, next_is)

  pub one_stored : (now : List StoredMember) (next : ℕ) → now ≡ stored ++ stored_part at p ∷ [] → next ≡ at + 60 + part_size p + part_size p % 2 → next < 2 ^ 32
      → AreStoredSoFar ps (i + 1) now next
  one_stored now next now_is next_is small =
      let e : i + 1 ≡ suc i = omega arith in
      let own = text_length p good in
      let behind : at + length (part_text p) ≡ next = omega (arith, own, next_is) in
      record {
        members =
            (λ j. now_is j ++ stored_parts next (drop (e j) ps))
            ∙ append_assoc stored (stored_part at p ∷ []) (stored_parts next (drop (suc i) ps))
            ∙ ap (λ (k : ℕ). stored ++ (stored_part at p ∷ stored_parts k (drop (suc i) ps))) (sym behind)
            ∙ ap (λ (qs : List Part). stored ++ stored_parts at qs) (sym front)
            ∙ so_far.members;
        total = next_total next next_is;
        small = small;
      }

-- all are stored
pub all_stored : (ps : List Part) (i : ℕ) (stored : List StoredMember) (at : ℕ) → AreStoredSoFar ps i stored at → length ps ≤ i → stored ≡ stored_parts 8 ps
all_stored ps i stored at so_far past =
    sym (ap (λ (qs : List Part). stored ++ stored_parts at qs) (drop_all i ps past) ∙ append-nil stored) ∙ so_far.members

pub is_small : (ps : List Part) (i : ℕ) (stored : List StoredMember) (at : ℕ) → AreStoredSoFar ps i stored at → length ps ≤ i → length (part_bytes ps) < 2 ^ 32
is_small ps i stored at so_far past =
    let total = so_far.total in
    let small = so_far.small in
    let none : length (concat (map part_text (drop i ps))) ≡ 0 = ap (λ (qs : List Part). length (concat (map part_text qs))) (drop_all i ps past) in
    omega (arith, total, small, none)

-- one member more is kept
pub kept_more :
    (ps now : List Part) (p : Part) (old zeros : List ℕ) → AreKeptParts ps old → IsPart p → zeros ≡ replicate (length zeros) 0 → length old ≤ length zeros →
    HasZerosFor (length zeros) p → now ≡ ps ++ p ∷ [] → AreKeptParts now zeros
kept_more ps now p old zeros kept good are grows enough now_is = record {
  parts = subst (All IsPart) (sym now_is) (All-push IsPart ps p kept.parts good);
  zeros_are = are;
  enough =
      subst (All (HasZerosFor (length zeros))) (sym now_is)
      (All-push (HasZerosFor (length zeros)) ps p
      (All-weaker (HasZerosFor (length old)) (HasZerosFor (length zeros)) (λ q was unread. let below = was unread in omega (arith, below, grows)) ps kept.enough) enough);
}

-- a member whose header can be read
pub kept_unread :
    (header bytes : List ℕ) (size : ℕ) → bytes ≡ header → IsHeader bytes × (size ≡ number (part bytes 48 10)) → size < 10 ^ 16 → IsKeptPart (unread_part header) size
kept_unread header bytes size same is small =
    let here = subst (λ (h : List ℕ). IsHeader h × (size ≡ number (part h 48 10))) same is in
    record {
      is_part = record { long = here.0.long; fmag = here.0.fmag; decimal = here.0.decimal; count = length-replicate (number (part header 48 10)) 0 };
      size_is = here.1;
      small = small;
    }
