-- A type after `impl`, after which `for` and another type may come.
use Rattle.std.proofs.Common.{◌≡◌, refl, sym, ◌∙◌, ap, subst, ℕ, ◌≤◌, zero, suc, length, Bool, true, false}
use Rattle.std.proofs.Common.{◌||◌, List, []}
use Rattle.std.proofs.Common.{◌∷◌, arith}
use Rattle.std.proofs.lemmas.Bool.{both_ways}
use Rattle.grammars.specs.Find.{Found, Past, Stuck}
use Rattle.grammars.specs.First.{heads, may_begin}
use Rattle.grammars.specs.Grammar.{Either, Nothing, To, perhaps}
use Rattle.grammars.specs.Machine.{is_nullable}
use Rattle.declarations.specs.Found.{finds}
use Rattle.declarations.specs.Impl.{for_type, may_for}
use Rattle.item_tables.specs.declared.class.SignClass.{SignClass}
use Rattle.item_tables.specs.declared.class.SignClass.TheVariants as signs
use Rattle.item_tables.specs.declared.class.Keyword.TheVariants as keywords
use Rattle.item_tables.specs.declared.types.TypeState.{TypeState}
use Rattle.item_tables.specs.declared.types.TypeState.TheVariants as types
use Rattle.item_tables.specs.Classes.{is, is_round, is_word, keyword, opens}
use Rattle.declarations.specs.rules.Names.{G, Inside, Label, Outside, Range, Target, key}
use Rattle.declarations.specs.rules.Rules.{rules}
use Rattle.declarations.specs.rules.Types.{angle, operand}
use Rattle.declarations.specs.rules.Types.{plain_continuation, range, type, type_front}
use Rattle.declarations.proofs.FoundLemmas.{bind, finds_first, finds_lacks, finds_other, finds_skips}
use Rattle.declarations.proofs.FoundLemmas.{find_fits, finds_sign, finds_then, finds_to}
use Rattle.declarations.proofs.ClassLemmas.{same_class}
use Rattle.declarations.proofs.LoopLemmas.{Fits}

-- what is found after a type
abbrev then_for : Found SignClass Label → Found SignClass Label
then_for f = bind f (finds may_for)

-- where a type after `impl` is read, a type and perhaps `for` and another type are
abbrev Splits : TypeState → List SignClass → Type 0
Splits s cs = finds (range s Target) cs ≡ then_for (finds (range s Outside) cs)

-- ---- the same step of both rules

-- both rules begin with the sign or neither does, and then they go on alike
record Alike (a b : G) (c : SignClass) (cs : List SignClass) : Type 0 where
  same : may_begin a c ≡ may_begin b c
  first : is_nullable a ≡ false
  second : is_nullable b ≡ false
  agree : may_begin a c ≡ true → finds a (c ∷ cs) ≡ then_for (finds b (c ∷ cs))

alike_either : (a b d e : G) (c : SignClass) (cs : List SignClass) → Alike a d c cs → Alike b e c cs
    → Alike (Either a b) (Either d e) c cs
alike_either a b d e c cs x y = record {
  same = rw (x.same, y.same) refl;
  first = rw (x.first, y.first) refl;
  second = rw (x.second, y.second) refl;
  agree = λ h. go (may_begin a c) refl h;
}
  where
    go : (t : Bool) → may_begin a c ≡ t → (may_begin a c || may_begin b c) ≡ true
        → finds (Either a b) (c ∷ cs) ≡ then_for (finds (Either d e) (c ∷ cs))
    go true i h =
        finds_first a b (c ∷ cs) i
        ∙ (x.agree i ∙ sym (ap then_for (finds_first d e (c ∷ cs) (sym x.same ∙ i))))
    go false i h =
        let later : may_begin b c ≡ true = sym (ap (λ t. t || may_begin b c) i) ∙ h in
        finds_other a b (c ∷ cs) i x.first
        ∙ (y.agree later ∙ sym (ap then_for (finds_other d e (c ∷ cs) (sym x.same ∙ i) x.second)))

-- rules of types from the states on, over signs of which fewer are left
module _ (c : SignClass) (cs : List SignClass)
    (earlier : (s : TypeState) (left : List SignClass) → length left ≤ length cs
    → Splits s left) where
  alike_to : (passes : SignClass → Bool) (s : TypeState)
      → Alike (To passes (Range s Target)) (To passes (Range s Outside)) c cs
  alike_to passes s = record {
    same = refl;
    first = refl;
    second = refl;
    agree = λ h.
        finds_to passes (Range s Target) c cs h
        ∙ (earlier s cs (omega arith)
        ∙ sym (ap then_for (finds_to passes (Range s Outside) c cs h)));
  }

  -- after the arguments in angle brackets
  closes : (left : List SignClass) → length left ≤ length cs
      → finds (To (is signs.Greater) (Range types.Whole Target)) left
      ≡ then_for (finds (To (is signs.Greater) (Range types.Whole Outside)) left)
  closes [] fits =
      finds_lacks (To (is signs.Greater) (Range types.Whole Target)) [] refl refl
      ∙ sym (ap then_for (finds_lacks (To (is signs.Greater) (Range types.Whole Outside)) [] refl refl))
  closes (d ∷ left) fits = go (is signs.Greater d) refl
    where
      go : (t : Bool) → is signs.Greater d ≡ t
          → finds (To (is signs.Greater) (Range types.Whole Target)) (d ∷ left)
          ≡ then_for (finds (To (is signs.Greater) (Range types.Whole Outside)) (d ∷ left))
      go true h =
          finds_to (is signs.Greater) (Range types.Whole Target) d left h
          ∙ (earlier types.Whole left (omega (arith, fits))
          ∙ sym (ap then_for (finds_to (is signs.Greater) (Range types.Whole Outside) d left h)))
      go false h =
          finds_lacks (To (is signs.Greater) (Range types.Whole Target)) (d ∷ left) h refl
          ∙ sym (ap then_for (finds_lacks (To (is signs.Greater) (Range types.Whole Outside)) (d ∷ left) h refl))

  -- arguments in angle brackets, up to their `>`
  abbrev inside : G
  inside = To opens (Range types.Argument Inside)

  inside_fits : opens c ≡ true → Fits (length cs) (finds inside (c ∷ cs))
  inside_fits h = rw (finds_to opens (Range types.Argument Inside) c cs h)
      (find_fits (rules (Range types.Argument Inside)) cs)

  closed : (f : Found SignClass Label) → Fits (length cs) f
      → bind f (finds (To (is signs.Greater) (Range types.Whole Target)))
      ≡ then_for (bind f (finds (To (is signs.Greater) (Range types.Whole Outside))))
  closed (Past e r) fits = closes r fits
  closed (Stuck l) fits = refl

  alike_angle : Alike (angle (Range types.Whole Target)) (angle (Range types.Whole Outside)) c cs
  alike_angle = record {
    same = refl;
    first = refl;
    second = refl;
    agree = λ h.
        finds_then inside (To (is signs.Greater) (Range types.Whole Target)) (c ∷ cs)
        ∙ (closed (finds inside (c ∷ cs)) (inside_fits (or_false (opens c) h))
        ∙ sym (ap then_for (finds_then inside (To (is signs.Greater) (Range types.Whole Outside)) (c ∷ cs))));
  }
    where
      or_false : (x : Bool) → (x || false) ≡ true → x ≡ true
      or_false true h = refl
      or_false false h = h

  alike_operand : Alike (operand Target) (operand Outside) c cs
  alike_operand =
      alike_either _ _ _ _ c cs
      (alike_either _ _ _ _ c cs (alike_to is_word types.Whole) (alike_to (is signs.Lifetime) types.Lifetime))
      (alike_either _ _ _ _ c cs (alike_to _ types.Whole)
      (alike_either _ _ _ _ c cs (alike_to type_front types.Wanted)
      (alike_either _ _ _ _ c cs (alike_to (is signs.Star) types.Pointer)
      (alike_either _ _ _ _ c cs (alike_to (is signs.Tilde) types.Tilde)
      (alike_either _ _ _ _ c cs (alike_to (keyword keywords.Extern) types.Abi)
      (alike_either _ _ _ _ c cs (alike_to (keyword keywords.For) types.For) alike_angle))))))

  alike_continuation : Alike (plain_continuation Target) (plain_continuation Outside) c cs
  alike_continuation =
      alike_either _ _ _ _ c cs (alike_to is_round types.Whole)
      (alike_either _ _ _ _ c cs (alike_to _ types.Wanted)
      (alike_either _ _ _ _ c cs (alike_to (is signs.Plus) types.Bound)
      (alike_either _ _ _ _ c cs (alike_to (is signs.Exclamation) types.MacroGroup) alike_angle)))

  -- ---- the rules of the states

  needed : (a b : G) → Alike a b c cs → finds a (c ∷ cs) ≡ then_for (finds b (c ∷ cs))
  needed a b x = go (may_begin a c) refl
    where
      go : (t : Bool) → may_begin a c ≡ t → finds a (c ∷ cs) ≡ then_for (finds b (c ∷ cs))
      go true h = x.agree h
      go false h =
          finds_lacks a (c ∷ cs) h x.first
          ∙ sym (ap then_for (finds_lacks b (c ∷ cs) (sym x.same ∙ h) x.second))

  no_perhaps : (a : G) → may_begin a c ≡ false → heads (perhaps a) (c ∷ cs) ≡ false
  no_perhaps a h = rw h refl

  no_for : keyword keywords.For c ≡ false → finds may_for (c ∷ cs) ≡ Past [] (c ∷ cs)
  no_for h = finds_skips may_for (c ∷ cs) (rw h refl) refl

  allowed : (a b : G) → Alike a b c cs → (may_begin a c ≡ false → keyword keywords.For c ≡ false)
      → finds (perhaps a) (c ∷ cs) ≡ then_for (finds (perhaps b) (c ∷ cs))
  allowed a b x f = go (may_begin a c) refl
    where
      nullable : (t : Bool) → (t || true) ≡ true
      nullable true = refl
      nullable false = refl

      go : (t : Bool) → may_begin a c ≡ t → finds (perhaps a) (c ∷ cs) ≡ then_for (finds (perhaps b) (c ∷ cs))
      go true h =
          finds_first a _ (c ∷ cs) h
          ∙ (x.agree h ∙ sym (ap then_for (finds_first b _ (c ∷ cs) (sym x.same ∙ h))))
      go false h =
          finds_skips (perhaps a) (c ∷ cs) (no_perhaps a h) (nullable (is_nullable a))
          ∙ (sym (no_for (f h))
          ∙ sym (ap then_for
          (finds_skips (perhaps b) (c ∷ cs) (no_perhaps b (sym x.same ∙ h)) (nullable (is_nullable b)))))

  -- where `for` can begin a rule, it is no end of that rule
  for_apart : (g : G) → may_begin g (signs.Keyword keywords.For) ≡ true → may_begin g c ≡ false
      → keyword keywords.For c ≡ false
  for_apart g begins h = go (keyword keywords.For c) refl
    where
      go : (t : Bool) → keyword keywords.For c ≡ t → t ≡ false
      go false e = refl
      go true e =
          let at : may_begin g c ≡ true =
          ap (may_begin g) (same_class (signs.Keyword keywords.For) c e) ∙ begins in
          absurd (both_ways _ h at)

  -- a type that may end here, or go on
  abbrev may_continue : G
  may_continue = perhaps (plain_continuation Target)

  abbrev at_for : G
  at_for = To (keyword keywords.For) (Range types.Wanted Outside)

  whole_for : (d : SignClass) → signs.Keyword keywords.For ≡ d
      → finds (range types.Whole Target) (d ∷ cs) ≡ then_for (finds (range types.Whole Outside) (d ∷ cs))
  whole_for d same = subst
      (λ e. finds (range types.Whole Target) (e ∷ cs) ≡ then_for (finds (range types.Whole Outside) (e ∷ cs))) same
      (finds_first (Either at_for (plain_continuation Target)) Nothing (signs.Keyword keywords.For ∷ cs) refl
      ∙ (finds_first at_for (plain_continuation Target) (signs.Keyword keywords.For ∷ cs) refl
      ∙ (finds_to (keyword keywords.For) (Range types.Wanted Outside) (signs.Keyword keywords.For) cs refl
      ∙ sym (ap then_for (finds_skips (range types.Whole Outside) (signs.Keyword keywords.For ∷ cs) refl refl)
      ∙ (finds_first for_type Nothing (signs.Keyword keywords.For ∷ cs) refl
      ∙ (finds_then (key keywords.For) type (signs.Keyword keywords.For ∷ cs)
      ∙ ap (λ f. bind f (finds type))
      (finds_sign (keyword keywords.For) (signs.Keyword keywords.For) cs refl)))))))

  whole_other : keyword keywords.For c ≡ false
      → finds (range types.Whole Target) (c ∷ cs) ≡ finds may_continue (c ∷ cs)
  whole_other h = go (may_begin (plain_continuation Target) c) refl
    where
      both : (t : Bool) → may_begin (plain_continuation Target) c ≡ t
          → may_begin (Either at_for (plain_continuation Target)) c ≡ t
      both t e = rw (h, e) refl

      go : (t : Bool) → may_begin (plain_continuation Target) c ≡ t
          → finds (range types.Whole Target) (c ∷ cs) ≡ finds may_continue (c ∷ cs)
      go true e =
          finds_first (Either at_for (plain_continuation Target)) Nothing (c ∷ cs) (both true e)
          ∙ (finds_other at_for (plain_continuation Target) (c ∷ cs) h refl
          ∙ sym (finds_first (plain_continuation Target) Nothing (c ∷ cs) e))
      go false e =
          finds_skips (range types.Whole Target) (c ∷ cs)
          (no_perhaps (Either at_for (plain_continuation Target)) (both false e)) refl
          ∙ sym (finds_skips may_continue (c ∷ cs) (no_perhaps (plain_continuation Target) e) refl)

  whole : Splits types.Whole (c ∷ cs)
  whole = go (keyword keywords.For c) refl
    where
      go : (t : Bool) → keyword keywords.For c ≡ t → Splits types.Whole (c ∷ cs)
      go true h = whole_for c (sym (same_class (signs.Keyword keywords.For) c h))
      go false h =
          whole_other h
          ∙ allowed (plain_continuation Target) (plain_continuation Outside) alike_continuation (λ none. h)

  state : (s : TypeState) → Splits s (c ∷ cs)
  state types.Wanted = needed _ _ alike_operand
  state types.Bound = allowed _ _ alike_operand (for_apart (operand Target) refl)
  state types.Lifetime =
      allowed _ _ (alike_either _ _ _ _ c cs (alike_to (is signs.Plus) types.Bound) alike_operand)
      (for_apart (Either (To (is signs.Plus) (Range types.Bound Target)) (operand Target)) refl)
  state types.Argument = needed _ _ alike_operand
  state types.Whole = whole
  state types.MacroGroup = needed _ _ (alike_to _ types.Whole)
  state types.Pointer = needed _ _ (alike_to _ types.Wanted)
  state types.Tilde = needed _ _ (alike_to _ types.Wanted)
  state types.Abi =
      needed _ _ (alike_either _ _ _ _ c cs (alike_to (is signs.Literal) types.Wanted) alike_operand)
  state types.Minus = needed _ _ (alike_to (is signs.Literal) types.Whole)
  state types.For = needed _ _ (alike_to opens types.Binder)
  state types.Binder =
      needed _ _ (alike_either _ _ _ _ c cs (alike_to _ types.Binder) (alike_to (is signs.Greater) types.Wanted))

-- ---- all signs

no_signs : (g h : G) → is_nullable g ≡ false → is_nullable h ≡ false → finds g [] ≡ then_for (finds h [])
no_signs g h e f = finds_lacks g [] refl e ∙ sym (ap then_for (finds_lacks h [] refl f))

may_end : (g h : G) → is_nullable g ≡ true → is_nullable h ≡ true → finds g [] ≡ then_for (finds h [])
may_end g h e f =
    finds_skips g [] refl e
    ∙ sym (ap then_for (finds_skips h [] refl f) ∙ finds_skips may_for [] refl refl)

at_end : (s : TypeState) → Splits s []
at_end types.Wanted = no_signs _ _ refl refl
at_end types.Bound = may_end _ _ refl refl
at_end types.Lifetime = may_end _ _ refl refl
at_end types.Argument = no_signs _ _ refl refl
at_end types.Whole = may_end _ _ refl refl
at_end types.MacroGroup = no_signs _ _ refl refl
at_end types.Pointer = no_signs _ _ refl refl
at_end types.Tilde = no_signs _ _ refl refl
at_end types.Abi = no_signs _ _ refl refl
at_end types.Minus = no_signs _ _ refl refl
at_end types.For = no_signs _ _ refl refl
at_end types.Binder = no_signs _ _ refl refl

splits_within : (n : ℕ) (s : TypeState) (cs : List SignClass) → length cs ≤ n → Splits s cs
splits_within n s [] h = at_end s
splits_within zero s (c ∷ cs) h = absurd (omega arith)
splits_within (suc n) s (c ∷ cs) h =
    state c cs (λ t left fits. splits_within n t left (omega (arith, h, fits))) s

-- a type after `impl` is a type and perhaps `for` and another type
pub splits : (s : TypeState) (cs : List SignClass) → Splits s cs
splits s cs = splits_within (length cs) s cs (omega arith)
