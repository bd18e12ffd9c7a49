-- What the rule of an `impl` reads after the keyword, in the steps of the functions that read it.
use Rattle.std.proofs.Common.{◌≡◌, refl, sym, ◌∙◌, ap, subst, Bool, true, false, not, ◌&&◌, List, [], ◌∷◌}
use Rattle.std.proofs.lemmas.Bool.{both_ways}
use Rattle.grammars.specs.First.{heads, may_begin}
use Rattle.grammars.specs.Grammar.{Nothing, Then}
use Rattle.declarations.specs.Found.{finds}
use Rattle.declarations.specs.Impl.{begins_generics, has_generics, may_const, may_for, target_types}
use Rattle.item_tables.specs.declared.class.SignClass.{SignClass}
use Rattle.item_tables.specs.declared.class.SignClass.TheVariants as signs
use Rattle.item_tables.specs.declared.class.Keyword.TheVariants as keywords
use Rattle.item_tables.specs.declared.class.Word.TheVariants as words
use Rattle.item_tables.specs.declared.types.TypeState.TheVariants as types
use Rattle.declarations.specs.rules.Bodies.{where_and_body}
use Rattle.item_tables.specs.Classes.{is, opens}
use Rattle.declarations.specs.rules.Impls.{const_target, impl_front, negative, target}
use Rattle.declarations.specs.rules.Names.{G, Target, key}
use Rattle.declarations.specs.rules.Parts.{generics}
use Rattle.declarations.specs.rules.Types.{range, type}
use Rattle.declarations.proofs.ClassLemmas.{every_holds, same_class}
use Rattle.declarations.proofs.FoundLemmas.{bind, finds_first, finds_lacks, finds_other, finds_then}
use Rattle.declarations.proofs.ImplFormLemmas.{const_not, const_typed, finds_past, finds_three}
use Rattle.declarations.proofs.ImplFormLemmas.{front_generics, front_none, front_plain, front_typed, negative_alone}
use Rattle.declarations.proofs.ImplFormLemmas.{negative_typed, or_nothing, target_const, target_none, target_not}
use Rattle.declarations.proofs.ImplFormLemmas.{target_plain, target_typed, impl_type, typed_same}

-- ---- generic parameters

-- a `<` is neither `const` nor `!`
opens_first : (c : SignClass) → opens c ≡ true
    → (is (signs.Keyword keywords.Const) c ≡ false) × (is signs.Exclamation c ≡ false)
opens_first signs.Less h = (refl, refl)
opens_first signs.LessJoint h = (refl, refl)
opens_first (signs.Word words.Auto) h = absurd (both_ways _ refl h)
opens_first (signs.Word _) h = absurd (both_ways _ refl h)
opens_first (signs.Keyword keywords.Async) h = absurd (both_ways _ refl h)
opens_first (signs.Keyword _) h = absurd (both_ways _ refl h)
opens_first _ h = absurd (both_ways _ refl h)

-- where generic parameters follow `impl`
pub front_in : (cs : List SignClass) → has_generics cs ≡ true
    → finds impl_front cs ≡ finds (Then generics (target true)) cs
front_in [] h = absurd (both_ways _ refl h)
front_in (c ∷ cs) h = go (opens c) refl (begins_generics cs) refl
  where
    go : (x : Bool) → opens c ≡ x → (y : Bool) → begins_generics cs ≡ y
        → finds impl_front (c ∷ cs) ≡ finds (Then generics (target true)) (c ∷ cs)
    go true o true b = front_generics c cs o b
    go true o false b = absurd (both_ways _ (ap (λ x. x && begins_generics cs) o ∙ b) h)
    go false o y b = absurd (both_ways _ (ap (λ x. x && begins_generics cs) o) h)

-- where none follow
pub front_out : (cs : List SignClass) → has_generics cs ≡ false → finds impl_front cs ≡ finds (target true) cs
front_out [] h = front_none ∙ sym target_none
front_out (c ∷ cs) h = go (opens c) refl
  where
    same : opens c ≡ false → (x : Bool) → is (signs.Keyword keywords.Const) c ≡ x → (y : Bool)
        → is signs.Exclamation c ≡ y
        → finds (target false) (c ∷ cs) ≡ finds (target true) (c ∷ cs)
    same o true i y j =
        subst (λ d. finds (target false) (d ∷ cs) ≡ finds (target true) (d ∷ cs))
        (sym (same_class (signs.Keyword keywords.Const) c i)) (target_const false cs ∙ sym (target_const true cs))
    same o false i true j =
        subst (λ d. finds (target false) (d ∷ cs) ≡ finds (target true) (d ∷ cs))
        (sym (same_class signs.Exclamation c j)) (target_not false cs ∙ sym (target_not true cs))
    same o false i false j = target_plain c cs i j o ∙ sym (target_typed c cs i j)

    go : (x : Bool) → opens c ≡ x → finds impl_front (c ∷ cs) ≡ finds (target true) (c ∷ cs)
    go true o =
        let none : begins_generics cs ≡ false = sym (ap (λ x. x && begins_generics cs) o) ∙ h in
        let first = opens_first c o in
        front_typed c cs o none ∙ sym (target_typed c cs first.0 first.1)
    go false o =
        front_plain c cs o
        ∙ same o (is (signs.Keyword keywords.Const) c) refl (is signs.Exclamation c) refl

-- ---- `const`

abbrev with_const : G
with_const = Then (key keywords.Const) const_target

const_heads : (cs : List SignClass) → heads with_const cs ≡ heads (key keywords.Const) cs
const_heads [] = refl
const_heads (c ∷ cs) = or_nothing (is (signs.Keyword keywords.Const) c) (may_begin const_target c)

may_heads : (cs : List SignClass) → heads (key keywords.Const) cs ≡ false → heads may_const cs ≡ false
may_heads [] h = refl
may_heads (c ∷ cs) h = rw h refl

pub target_may : (cs : List SignClass) → finds (target true) cs ≡ finds (Then may_const const_target) cs
target_may cs = go (heads (key keywords.Const) cs) refl
  where
    go : (x : Bool) → heads (key keywords.Const) cs ≡ x
        → finds (target true) cs ≡ finds (Then may_const const_target) cs
    go true h =
        finds_first with_const const_target cs (const_heads cs ∙ h)
        ∙ (finds_then (key keywords.Const) const_target cs
        ∙ sym (finds_then may_const const_target cs
        ∙ ap (λ x. bind x (finds const_target)) (finds_first (key keywords.Const) Nothing cs h)))
    go false h =
        finds_other with_const const_target cs (const_heads cs ∙ h) refl
        ∙ sym (finds_past may_const const_target cs (may_heads cs h) refl)

-- ---- the trait and the type

-- a type or two, and what comes after them
pub typed_types : (cs : List SignClass) → finds impl_type cs ≡ finds (Then target_types where_and_body) cs
typed_types cs =
    typed_same cs ∙ (finds_three type may_for where_and_body cs ∙ sym (finds_then target_types where_and_body cs))

pub target_positive : (c : SignClass) (cs : List SignClass) → is signs.Exclamation c ≡ false
    → finds const_target (c ∷ cs) ≡ finds (Then target_types where_and_body) (c ∷ cs)
target_positive c cs h = const_typed c cs h ∙ typed_types (c ∷ cs)

abbrev target_type : G
target_type = range types.Wanted Target

-- no type begins with a sign that begins a where clause or a body
no_type : (c : SignClass) → may_begin where_and_body c ≡ true → may_begin target_type c ≡ false
no_type c h = go (may_begin target_type c) refl
  where
    go : (x : Bool) → may_begin target_type c ≡ x → x ≡ false
    go false e = refl
    go true e =
        absurd (both_ways _ (rw (h, e) refl)
        (every_holds (λ d. not (may_begin where_and_body d && may_begin target_type d)) refl c))

end_apart : (cs : List SignClass) → heads where_and_body cs ≡ true → heads target_type cs ≡ false
end_apart [] h = refl
end_apart (c ∷ cs) h = no_type c h

pub target_never : (cs : List SignClass) → heads where_and_body cs ≡ true
    → finds const_target (signs.Exclamation ∷ cs) ≡ finds where_and_body cs
target_never cs h = const_not cs ∙ negative_alone cs (end_apart cs h)

pub target_negative : (cs : List SignClass) → heads where_and_body cs ≡ false
    → finds const_target (signs.Exclamation ∷ cs) ≡ finds (Then target_types where_and_body) cs
target_negative cs h = const_not cs ∙ go (heads target_type cs) refl
  where
    go : (x : Bool) → heads target_type cs ≡ x → finds negative cs ≡ finds (Then target_types where_and_body) cs
    go true i = negative_typed cs i ∙ typed_types cs
    go false i =
        negative_alone cs i
        ∙ (finds_lacks where_and_body cs h refl ∙ sym (finds_lacks impl_type cs (none cs i) refl) ∙ typed_types cs)
      where
        none : (cs : List SignClass) → heads target_type cs ≡ false → heads impl_type cs ≡ false
        none [] i = refl
        none (c ∷ cs) i = or_nothing (may_begin target_type c) (may_begin where_and_body c) ∙ i
