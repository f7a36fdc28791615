-- Sections of debug data that a device takes one after the other.
use Rattle.std.proofs.Common.{◌≡◌, ◌∙◌, ◌+◌, ◌<◌, ◌≤◌, ◌++◌, ℕ, List, [], ap, append_assoc, drop, get_or, length, refl, subst, sym}
use Rattle.std.specs.Prelude.{Option}
use Rattle.std.specs.Option.{option_to_list}
use Rattle.elf_model.specs.declared.references.SectionRef.{SectionRef}
use Rattle.std.proofs.lemmas.List.{append-nil, at_drop_all, at_drop_more}
use Rattle.image_write.proofs.StreamLaws.{took_more, took_nothing}
use Rattle.image_write.specs.Streams.{Took, TookPart}
use Rattle.debug_image.specs.DebugValues.{Data, all_bytes, chunk_bytes}
use Rattle.debug_image.specs.DebugViews.{chunk_view, chunk_views}
use Rattle.debug_image.specs.declared.chunks.Chunk.{Chunk}
use Rattle.debug_main.specs.DebugFiles.{left_at, left_of}
use Rattle.debug_main.specs.Written.{Written}

pub none_written : (d : Data) (cs : List Chunk) (t : Option (List ℕ)) → Written d cs 0 t t
none_written d cs t = record { front = []; parts = refl; took = took_nothing t }

-- the bytes from a section on are its own and those behind it
next : (d : Data) (cs : List Chunk) (k : ℕ) (x : Chunk) → k < length cs → all_bytes d (chunk_views (drop k cs)) ≡ chunk_bytes d (chunk_view (get_or cs k x)) ++ all_bytes d (chunk_views (drop (k + 1) cs))
next d cs k x lt = at_drop_more (λ (l : List Chunk). all_bytes d (chunk_views l)) cs k x lt

pub one_written :
    (d : Data) (cs : List Chunk) (k : ℕ) (x : Chunk) (a b c : Option (List ℕ)) → k < length cs → Written d cs k a b → Took b (chunk_bytes d (chunk_view (get_or cs k x))) c →
    Written d cs (k + 1) a c
one_written d cs k x a b c lt w took =
    let bytes = chunk_bytes d (chunk_view (get_or cs k x)) in record {
      front = w.front ++ bytes;
      parts = w.parts ∙ (ap (λ (l : List ℕ). w.front ++ l) (next d cs k x lt) ∙ sym (append_assoc w.front bytes (all_bytes d (chunk_views (drop (k + 1) cs)))));
      took = took_more a b c w.front bytes w.took took;
    }

pub all_written : (d : Data) (cs : List Chunk) (k : ℕ) (a b : Option (List ℕ)) → length cs ≤ k → Written d cs k a b → Took a (all_bytes d (chunk_views cs)) b
all_written d cs k a b le w =
    let whole : all_bytes d (chunk_views cs) ≡ w.front =
    w.parts ∙ (ap (λ (l : List ℕ). w.front ++ l) (at_drop_all (λ (l : List Chunk). all_bytes d (chunk_views l)) cs k le) ∙ append-nil w.front) in
    subst (λ (l : List ℕ). Took a l b) (sym whole) w.took

pub part_written :
    (d : Data) (cs : List Chunk) (k : ℕ) (x : Chunk) (a b c : Option (List ℕ)) → k < length cs → Written d cs k a b →
    TookPart b (chunk_bytes d (chunk_view (get_or cs k x))) c → TookPart a (all_bytes d (chunk_views cs)) c
part_written d cs k x a b c lt w part =
    let behind = all_bytes d (chunk_views (drop (k + 1) cs)) in record {
      front = w.front ++ part.front;
      rest = part.rest ++ behind;
      parts = w.parts
          ∙ (ap (λ (l : List ℕ). w.front ++ l) (next d cs k x lt ∙ (ap (λ (l : List ℕ). l ++ behind) part.parts ∙ append_assoc part.front part.rest behind))
          ∙ sym (append_assoc w.front part.front (part.rest ++ behind)));
      took = took_more a b c w.front part.front w.took part.took;
    }

-- the sections that are told, from a section on
pub left_next :
    (d : Data) (cs : List Chunk) (k : ℕ) (x : Chunk) (left all : List SectionRef) → k < length cs → left ++ left_of d (chunk_views (drop k cs)) ≡ all →
    (left ++ option_to_list (left_at d (chunk_view (get_or cs k x)))) ++ left_of d (chunk_views (drop (k + 1) cs)) ≡ all
left_next d cs k x left all lt e =
    append_assoc left (option_to_list (left_at d (chunk_view (get_or cs k x)))) (left_of d (chunk_views (drop (k + 1) cs)))
    ∙ (ap (λ (l : List SectionRef). left ++ l) (sym (at_drop_more (λ (l : List Chunk). left_of d (chunk_views l)) cs k x lt)) ∙ e)

pub left_whole : (d : Data) (cs : List Chunk) (k : ℕ) (left all : List SectionRef) → length cs ≤ k → left ++ left_of d (chunk_views (drop k cs)) ≡ all → left ≡ all
left_whole d cs k left all le e =
    sym (append-nil left) ∙ (ap (λ (l : List SectionRef). left ++ l) (sym (at_drop_all (λ (l : List Chunk). left_of d (chunk_views l)) cs k le)) ∙ e)
