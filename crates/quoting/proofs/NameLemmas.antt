-- Names that are compared by their bytes, and texts that are no names.
use Rattle.std.proofs.Common.{◌≡◌, ◌↔◌, ℕ, Bool, true, false, not, nat_eq, IsTrue, List, Option, Some, None}
use Rattle.std.proofs.Common.{Result, Ok, Err, codes, length, ◌==◌, if◌then◌else◌, refl, sym, ap, ◌∙◌}
use Rattle.std.specs.declared.alloc.AllocError.{AllocError}
use Rattle.std.specs.Cmp.Lexicographic.{bytes_decides, pointwise}
use Rattle.std.specs.Str.{chars, IsUtf8, encode_utf8_all}
use Rattle.std.proofs.lemmas.Bool.Decides.{same_from_decides}
use Rattle.std.proofs.lemmas.Slice.Eq.{bytes_eq-Decides}
use Rattle.std.proofs.lemmas.Str.{encodes-chars}
use Rattle.proc_macro2.specs.Identifier.{is_allowed}
use Rattle.proc_macro2.specs.IdentFault.{ident_fault, is_name, is_number}
use Rattle.proc_macro2.specs.declared.IdentError.{IdentError}
use Rattle.proc_macro2.specs.declared.IdentError.TheVariants.{Empty, Number, Invalid, Reserved, Memory}

-- two texts are equal exactly if their bytes are
pub same_text : (r : Bool) (s text name : List ℕ) → IsUtf8 s → IsUtf8 text → chars s ≡ name
    → r ≡ pointwise nat_eq s text
    → r ≡ pointwise nat_eq name (chars text)
same_text r s text name own utf8 e is =
    let bytes = bytes_eq-Decides s text in
    let exactly : IsTrue r ↔ (name ≡ chars text) = (
      λ h. sym e ∙ ap chars (bytes.0 (sym is ∙ h)),
      λ h. is ∙ bytes.1 (sym (encodes-chars s own) ∙ (ap encode_utf8_all (e ∙ h) ∙ encodes-chars text utf8)),
    ) in
    same_from_decides r (pointwise nat_eq name (chars text)) exactly (bytes_decides name (chars text))

-- ---- texts that are no names

by_tests : (empty number name allowed : Bool) (error : AllocError)
    → (if empty then Some Empty else
    (if number then Some Number else
    (if not name then Some Invalid else (if not allowed then Some Reserved else None)))) ≡ Some (Memory error)
    → ⊥
by_tests true number name allowed error h = absurd (cc)
by_tests false true name allowed error h = absurd (cc)
by_tests false false false allowed error h = absurd (cc)
by_tests false false true false error h = absurd (cc)
by_tests false false true true error h = absurd (cc)

pub no_memory : (name : List ℕ) (error : AllocError) → ident_fault false name ≡ Some (Memory error) → ⊥
no_memory name = by_tests (length name == 0) (is_number name) (is_name name) (is_allowed false name)

-- a new identifier has a name without an error
pub no_fault : {T : Type 0} (fault : Option IdentError) (r : Result T IdentError) (x : T)
    → ((error : AllocError) → fault ≡ Some (Memory error) → ⊥)
    → ((r ≡ Err Empty) ↔ (fault ≡ Some Empty)) → ((r ≡ Err Number) ↔ (fault ≡ Some Number))
    → ((r ≡ Err Invalid) ↔ (fault ≡ Some Invalid)) → ((r ≡ Err Reserved) ↔ (fault ≡ Some Reserved))
    → r ≡ Ok x → fault ≡ None
no_fault None r x memory empty number invalid reserved is = refl
no_fault (Some Empty) r x memory empty number invalid reserved is = absurd (made (sym is ∙ empty.1 refl))
  where
    made : Ok x ≡ Err Empty → ⊥
    made e = absurd (cc)
no_fault (Some Number) r x memory empty number invalid reserved is = absurd (made (sym is ∙ number.1 refl))
  where
    made : Ok x ≡ Err Number → ⊥
    made e = absurd (cc)
no_fault (Some Invalid) r x memory empty number invalid reserved is = absurd (made (sym is ∙ invalid.1 refl))
  where
    made : Ok x ≡ Err Invalid → ⊥
    made e = absurd (cc)
no_fault (Some Reserved) r x memory empty number invalid reserved is = absurd (made (sym is ∙ reserved.1 refl))
  where
    made : Ok x ≡ Err Reserved → ⊥
    made e = absurd (cc)
no_fault (Some (Memory error)) r x memory empty number invalid reserved is = absurd (memory error refl)

-- ---- the texts `true` and `false`

pub true_chars : chars (codes "true") ≡ codes "true"
unfolding chars
true_chars = refl

pub false_chars : chars (codes "false") ≡ codes "false"
unfolding chars
false_chars = refl
