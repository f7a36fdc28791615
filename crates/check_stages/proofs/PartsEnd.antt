-- The segments of an accepted image: they are lawful, and where the last file part ends.
use Rattle.std.proofs.Common.{◌≡◌, ℕ, ◌+◌, ◌<◌, ◌≤◌, ◌^◌, Bool, true, false, cond, List, [], ◌∷◌, length, refl, arith}
use Rattle.std.specs.Prelude.{All, max, nat_lt}
use Rattle.std.proofs.lemmas.Bool.{ltb-true}
use Rattle.std.proofs.lemmas.List.Elements.{All-head, All-tail, All-weaker}
use Rattle.elf_model.specs.Image.MemoryImage.{IsGoodLoad, IsImage, file_end, first_address, loads}
use Rattle.elf_model.specs.declared.records.ProgramHeader.{ProgramHeader}
use Rattle.loader_model.specs.Table.{IsLawful}

-- a file part that isn't empty ends by a number
abbrev EndsBy : ℕ → ProgramHeader → Type 0
EndsBy limit h = 0 < h.p_filesz → h.p_offset + h.p_filesz ≤ limit

pub ends_by : (limit : ℕ) (hs : List ProgramHeader) → All (EndsBy limit) hs → file_end hs ≤ limit
ends_by limit [] all = omega arith
ends_by limit (h ∷ hs) all = by (nat_lt 0 h.p_filesz) refl (ends_by limit hs (All-tail (EndsBy limit) h hs all))
  where
    by : (b : Bool) → nat_lt 0 h.p_filesz ≡ b → file_end hs ≤ limit → cond b (max (h.p_offset + h.p_filesz) (file_end hs)) (file_end hs) ≤ limit
    by true e rest = let here = All-head (EndsBy limit) h hs all (ltb-true 0 h.p_filesz e) in omega (arith, here, rest)
    by false e rest = rest

module _ (image : List ℕ) (is : IsImage image) where
  abbrev Good : ProgramHeader → Type 0
  Good h = IsGoodLoad (first_address (loads image)) (length image) h

  pub ends_inside : file_end (loads image) ≤ length image
  ends_inside = ends_by (length image) (loads image) (All-weaker Good (EndsBy (length image)) (λ h g. g.inside) (loads image) is.segments.segments)

  pub ends_low : file_end (loads image) ≤ 2 ^ 46
  ends_low =
      ends_by (2 ^ 46) (loads image)
      (All-weaker Good (EndsBy (2 ^ 46))
      (λ h g some. let e = g.end in let m = g.file_in_memory in let o = g.offset in omega (arith, e, m, o)) (loads image) is.segments.segments)

pub lawful_loads : (image : List ℕ) → IsImage image → All (IsLawful (length image)) (loads image)
lawful_loads image is =
    All-weaker (λ h. IsGoodLoad (first_address (loads image)) (length image) h) (IsLawful (length image))
    (λ h g. record { some_rights = g.some_rights; no_other_rights = g.no_other_rights; inside = g.inside }) (loads image) is.segments.segments
