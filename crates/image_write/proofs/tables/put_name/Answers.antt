use Rattle.std.proofs.Common.{◌≡◌, ◌∙◌, ◌∷◌, [], ◌++◌, Bool, false, List, ℕ, ap, sym}
use Rattle.std.specs.Borrow.{Bor}
use Rattle.elf_model.specs.Link.Loading.{LoadedObject}
use Rattle.elf_model.specs.Link.Meaning.{is_in_thread_storage}
use Rattle.resolve.specs.Views.{held_name, meaning_view}
use Rattle.resolve.specs.declared.definition.Definition as code
use Rattle.search.specs.Views.{loaded_views}
use Rattle.image_write.specs.Tables.{name_bytes}
use Rattle.image_write.proofs.StreamSteps.{towards_fault, towards_last, towards_more, towards_nothing}
use Rattle.image_write.proofs.TableParts.{held_is, its_name}
use Rattle.image_write.proofs.tables.put_name.Goals as goal

-- the name, and its NUL
parts_are :
    (objects : List LoadedObject) (d : code.Definition) (b : Bool) (name : Bor (List ℕ)) → b ≡ is_in_thread_storage objects (meaning_view d) → b ≡ false →
    name ≡ held_name d → name_bytes objects (meaning_view d ∷ []) ≡ name.now ++ 0 ∷ []
parts_are objects d b name is other named =
    its_name objects (meaning_view d) (sym is ∙ other)
    ∙ ap (λ (xs : List ℕ). xs ++ 0 ∷ []) (sym (ap (λ (n : Bor (List ℕ)). n.now) named ∙ held_is d))

pub returns-in_err-put : goal.returns-in_err-put
returns-in_err-put g c =
    towards_fault _ _ _ _ _ _ _ _ (towards_nothing _ _)
    (parts_are (loaded_views c.args.names.now.objects.now) c.args.definition.now c.is_in_thread_storage.result c.name.result
    c.is_in_thread_storage.ensures c.if-is_in_thread_storage.false c.name.ensures)
    c.from_residual.ensures.0 c.in_err-put.ensures.breaks

pub returns : goal.returns
returns g c =
    towards_last _ _ _ _ _ _
    (towards_more _ _ _ _ _ _ _ (towards_nothing _ _)
    (parts_are (loaded_views c.args.names.now.objects.now) c.args.definition.now c.is_in_thread_storage.result c.name.result
    c.is_in_thread_storage.ensures c.if-is_in_thread_storage.false c.name.ensures)
    c.in_ok-put.ensures.grows)
    c.put-2.ensures
