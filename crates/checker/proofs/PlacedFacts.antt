-- What the clauses before say of the placed pieces: each lies whole in a segment, with no more input bytes
-- than its size.
use Rattle.std.proofs.Common.{◌≡◌, ℕ, ◌+◌, ◌^◌, ◌<◌, ◌≤◌, ◌&&◌, Bool, true, false, cond, List, [], ◌++◌, Option, None, Some, length, get_or, map, refl, subst, sym, arith}
use Rattle.std.specs.Prelude.{All, Any, Contains, IfSome, filter}
use Rattle.std.proofs.lemmas.List.Elements.{All-contains, All-head, All-tail}
use Rattle.elf_model.specs.Image.MemoryImage.{Encloses, loads}
use Rattle.elf_model.specs.Link.Pieces as pieces
use Rattle.elf_model.specs.Link.Placement as placement
use Rattle.elf_model.specs.Link.Placement.{HasRights, IsWithin, LiesInSegment, got_things, headers_thing, is_thread_place, range_of, thing_of}
use Rattle.elf_model.specs.Image.RightLink.{Holds, Subject, objects_of, placed_of, things_of}
use Rattle.elf_model.specs.declared.verdict.Clause.TheVariants.{C5}
use Rattle.elf_model.specs.declared.link_map.GotLine.{GotLine}
use Rattle.elf_model.specs.declared.records.ProgramHeader.{ProgramHeader}
use Rattle.elf_model.specs.declared.thing.Thing.{Thing}
use Rattle.check_relocs.specs.Bytes.{LiesWhole}
use Rattle.checker.specs.Got.{LiesInImage}
use Rattle.check_link.specs.PieceParts.{AreInLimit, IsGotInLimit, IsInLimit}
use Rattle.check_link.specs.Views.{placed_view, placed_views}
use Rattle.check_link.specs.declared.things.Placed.{Placed}
use Rattle.check_link.proofs.PieceLemmas.{all_short}
use Rattle.checker.proofs.PieceSections.{placed_each}
use Rattle.elf_model.proofs.Listed.{All-parts, All-unmap}
use Rattle.checker.proofs.Filtered.{All-unfilter}

-- a piece has no more input bytes than its size
abbrev Short : pieces.Piece → Type 0
Short p = length p.bytes ≤ p.size

abbrev Encloses_it : List ProgramHeader → Thing → Type 0
Encloses_it segments t = 0 < t.size → Any (λ h. Encloses h t.at t.size) segments

enclosed : (segments : List ProgramHeader) (t : Thing) → (0 < t.size → LiesInSegment segments t) → Encloses_it segments t
enclosed segments t lies some = let a = lies some in (a.0, a.1, a.2, a.3, a.4.0)

pub lie_whole :
    (s : Subject) (qs : List Placed) → All (Contains (placed_of s)) (placed_views qs) →
    HasRights s.plan.base (loads s.image) (things_of s) (got_things s.map.got) → All (LiesWhole s.image) qs
lie_whole s qs among rights =
    let segments = loads s.image in
    let Lies : Thing → Type 0 = λ t. 0 < t.size → LiesInSegment segments t in
    let all = All-tail Lies (headers_thing s.image) (got_things s.map.got ++ map thing_of (placed_of s)) rights.nonempty in
    let mapped = (All-parts Lies (got_things s.map.got) (map thing_of (placed_of s)) all).1 in
    let lies = All-unmap Lies thing_of (placed_of s) mapped in
    let short = placed_each Short s (all_short (objects_of s)) (λ k t. omega arith) in
    let there = All-unmap (Contains (placed_of s)) placed_view qs among in
    λ k d within.
    let q = placed_view (get_or qs k d) in
    record {
      encloses = enclosed segments (thing_of q) (All-contains (λ (x : placement.Placed). Lies (thing_of x)) (placed_of s) q lies (there k d within));
      short = All-contains (λ (x : placement.Placed). Short x.piece) (placed_of s) q short (there k d within);
    }

-- a piece ends where its thing does, or where its addresses do, which are asked of a thread-local one
ends : (base : ℕ) (q : placement.Placed) → IsWithin base (thing_of q) → (is_thread_place q ≡ true → IsWithin base (range_of q)) → IsInLimit q
ends base q loaded thread = by (pieces.is_thread_piece q.piece) refl (pieces.is_nobits q.piece.header) loaded.1
  where
    by :
        (b : Bool) → pieces.is_thread_piece q.piece ≡ b → (c : Bool) → q.at + cond (pieces.is_thread_piece q.piece && c) 0 q.piece.size ≤ 2 ^ 46 →
        q.at + q.piece.size ≤ 2 ^ 47
    by true e c low = let end = (thread e).1 in omega (arith, end)
    by false e c low = let end = subst (λ (t : Bool). q.at + cond (t && c) 0 q.piece.size ≤ 2 ^ 46) e low in omega (arith, end)

-- where the things of a link, and the thread-local pieces, are within the addresses, each piece ends at or below 2 ^ 47
pub in_limit : (s : Subject) (placed : List Placed) → placed_views placed ≡ placed_of s → Holds C5 s → AreInLimit (placed_views placed)
in_limit s placed same lies =
    let base = s.plan.base in
    let within = All-tail (IsWithin base) (headers_thing s.image) (got_things s.map.got ++ map thing_of (placed_of s)) lies.within in
    let loaded = All-unmap (IsWithin base) thing_of (placed_of s) (All-parts (IsWithin base) (got_things s.map.got) (map thing_of (placed_of s)) within).1 in
    let threads = All-unmap (IsWithin base) range_of (filter is_thread_place (placed_of s)) lies.threads_within in
    let each = All-unfilter is_thread_place (λ (q : placement.Placed). IsWithin base (range_of q)) (placed_of s) threads in
    subst AreInLimit (sym same) (λ k d low. ends base (get_or (placed_of s) k d) (loaded k d low) (each k d low))

abbrev got_thing : GotLine → Thing
got_thing g = record { at = g.address; size = g.size; align = 8; rights = 6; in_file = true }

-- so does its GOT, where there is one
pub got_in_limit : (s : Subject) → Holds C5 s → IsGotInLimit s.map.got
got_in_limit s lies = by s.map.got (All-tail (IsWithin s.plan.base) (headers_thing s.image) (got_things s.map.got ++ map thing_of (placed_of s)) lies.within)
  where
    by : (got : Option GotLine) → All (IsWithin s.plan.base) (got_things got ++ map thing_of (placed_of s)) → IsGotInLimit got
    by None all = tt
    by (Some g) all = (All-head (IsWithin s.plan.base) (got_thing g) (map thing_of (placed_of s)) all).1

-- and it lies whole in a segment
pub got_lies :
    (s : Subject) → Holds C5 s → HasRights s.plan.base (loads s.image) (things_of s) (got_things s.map.got) →
    IfSome s.map.got (LiesInImage s.image)
got_lies s lies rights = by s.map.got (got_in_limit s lies) rights.got
  where
    by : (got : Option GotLine) → IsGotInLimit got → All (LiesInSegment (loads s.image)) (got_things got) → IfSome got (LiesInImage s.image)
    by None low all = tt
    by (Some g) low all =
        let a = All-head (LiesInSegment (loads s.image)) (got_thing g) [] all in
        record { encloses = (a.0, a.1, a.2, a.3, a.4.0); low = low }
