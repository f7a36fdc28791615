-- Lawful kinds of all kept sections: judged object by object, meant of all pieces.
use Rattle.std.proofs.Common.{ℕ, ◌+◌, List, [], ◌∷◌, subst, sym}
use Rattle.std.specs.Prelude.{All}
use Rattle.std.proofs.lemmas.List.Elements.{All-append, All-cons, All-head, All-map, All-nil, All-tail}
use Rattle.elf_model.specs.Link.Loading.{LoadedObject}
use Rattle.elf_model.specs.Inputs.ObjectFile.{sections}
use Rattle.elf_model.specs.Link.Pieces.{IsLawfulKind, Piece, pieces_from, pieces_of}
use Rattle.elf_model.proofs.Listed.{All-parts, All-unmap}
use Rattle.search.proofs.KeptListLaws.{pieces_listed}
use Rattle.search.specs.KeptLists.{kept_numbers, piece_at}
use Rattle.search.specs.Views.{loaded_view, loaded_views}
use Rattle.search.specs.declared.loaded.LoadedObject as code
use Rattle.layout.specs.Kinds.{HasLawfulKinds}

abbrev IsLawful : Piece → Type 0
IsLawful p = IsLawfulKind p.header

-- of the sections of one object
kept_lawful : (k : ℕ) (o : LoadedObject) → HasLawfulKinds o → All IsLawful (pieces_from k o 0 (sections o.bytes))
kept_lawful k o kinds = subst (All IsLawful) (sym (pieces_listed k o)) (All-map IsLawful (piece_at k o) (kept_numbers o) kinds.each)

lawful_kept : (k : ℕ) (o : LoadedObject) → All IsLawful (pieces_from k o 0 (sections o.bytes)) → HasLawfulKinds o
lawful_kept k o all = record { each = All-unmap IsLawful (piece_at k o) (kept_numbers o) (subst (All IsLawful) (pieces_listed k o) all) }

-- of all objects
abbrev IsLawfulObject : code.LoadedObject → Type 0
IsLawfulObject l = HasLawfulKinds (loaded_view l)

pub objects_lawful : (k : ℕ) (ls : List code.LoadedObject) → All IsLawfulObject ls → All IsLawful (pieces_of k (loaded_views ls))
objects_lawful k [] all = All-nil IsLawful
objects_lawful k (l ∷ ls) all =
    All-append IsLawful (pieces_from k (loaded_view l) 0 (sections l.object)) (pieces_of (k + 1) (loaded_views ls))
    (kept_lawful k (loaded_view l) (All-head IsLawfulObject l ls all))
    (objects_lawful (k + 1) ls (All-tail IsLawfulObject l ls all))

pub lawful_objects : (k : ℕ) (ls : List code.LoadedObject) → All IsLawful (pieces_of k (loaded_views ls)) → All IsLawfulObject ls
lawful_objects k [] all = All-nil IsLawfulObject
lawful_objects k (l ∷ ls) all =
    let here : List Piece = pieces_from k (loaded_view l) 0 (sections l.object) in
    let rest : List Piece = pieces_of (k + 1) (loaded_views ls) in
    All-cons IsLawfulObject l ls (lawful_kept k (loaded_view l) (All-parts IsLawful here rest all).0)
    (lawful_objects (k + 1) ls (All-parts IsLawful here rest all).1)
