-- The kept sections of objects, one after the other.
use Rattle.std.proofs.Common.{◌≡◌, ℕ, List, [], ◌++◌, ◌+◌, ◌<◌, ◌≤◌, length, get_or, drop, sym, ◌∙◌, ap, subst}
use Rattle.std.proofs.lemmas.List.{append-nil, append_assoc, at_drop_all, at_drop_more}
use Rattle.elf_model.specs.Inputs.ObjectFile.{sections}
use Rattle.elf_model.specs.Link.Pieces.{Piece, pieces_from, pieces_of}
use Rattle.search.specs.Views.{loaded_view, loaded_views}
use Rattle.search.specs.declared.loaded.LoadedObject as code

-- sections looked at one after the other: what holds of those that were seen, and those that are left
pub record Walks (Holds : List Piece → Type 0) (rest whole : List Piece) : Type 0 where
  pub seen : List Piece
  pub holds : Holds seen
  pub is : seen ++ rest ≡ whole

pub walk_more :
    (P Q : List Piece → Type 0) (here rest more whole : List Piece) → rest ≡ here ++ more →
    ((done : List Piece) → P done → Q (done ++ here)) → Walks P rest whole → Walks Q more whole
walk_more P Q here rest more whole split step w = record {
  seen = w.seen ++ here;
  holds = step w.seen w.holds;
  is = append_assoc w.seen here more ∙ ap (λ (ps : List Piece). w.seen ++ ps) (sym split) ∙ w.is;
}

pub walk_end : (P : List Piece → Type 0) (rest whole : List Piece) → rest ≡ [] → Walks P rest whole → P whole
walk_end P rest whole none w =
    subst P (sym (append-nil w.seen) ∙ ap (λ (ps : List Piece). w.seen ++ ps) (sym none) ∙ w.is) w.holds

pub next_object :
    (objects : List code.LoadedObject) (k : ℕ) (d : code.LoadedObject) → k < length objects → d ≡ get_or objects k d →
    pieces_of k (loaded_views (drop k objects)) ≡ pieces_from k (loaded_view d) 0 (sections d.object) ++ pieces_of (k + 1) (loaded_views (drop (k + 1) objects))
next_object objects k d within is =
    at_drop_more (λ os. pieces_of k (loaded_views os)) objects k d within
    ∙ ap (λ (o : code.LoadedObject). pieces_from k (loaded_view o) 0 (sections o.object) ++ pieces_of (k + 1) (loaded_views (drop (k + 1) objects))) (sym is)

pub no_object : (objects : List code.LoadedObject) (k : ℕ) → length objects ≤ k → pieces_of k (loaded_views (drop k objects)) ≡ []
no_object objects k behind = at_drop_all (λ os. pieces_of k (loaded_views os)) objects k behind
