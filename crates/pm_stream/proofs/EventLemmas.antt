-- Lemmas on events: balanced lists, the openers that stay open, and the closer that doesn't fit.
use Rattle.std.proofs.Common.{◌≡◌, ℕ, Bool, true, false, cond, List, [], ◌∷◌, ◌++◌, Option, Some, refl, sym, ap, ◌∙◌}
use Rattle.std.proofs.Common.{subst, append_assoc, append-nil, option_and_then}
use Rattle.std.proofs.Common.{None as Nothing}
use Rattle.std.proofs.lemmas.Bool.{cond-false, false_from_ne_true}
use Rattle.pm_token.specs.declared.delimiters.Delimiter.{Delimiter}
use Rattle.pm_token.specs.declared.delimiters.Delimiter.TheVariants.{Parenthesis, Brace, Bracket, None}
use Rattle.pm_stream.specs.Events.{Event, One, Opens, Closes, Balanced, CanGoOn}
use Rattle.pm_stream.specs.Events as events
use Rattle.pm_stream.specs.Forest.{Forest, nil, leaf, group, flat_onto, flattening, chain}
use Rattle.pm_stream.proofs.TreeLemmas.{flat_onto-append, flat_onto-joined}
use Rattle.pm_stream.specs.OpenGroups.{Opened, unclosed_onto, FitsInnermost}

-- ---- flattenings

flat-append : (forest : Forest) (es fs : List Event) → flat_onto forest (es ++ fs) ≡ flat_onto forest es ++ fs
flat-append forest es fs = sym (flat_onto-append forest es fs)

pub flat_balanced : (forest : Forest) {es : List Event} → Balanced es → Balanced (flat_onto forest es)
flat_balanced nil h = h
flat_balanced (leaf token lo hi rest) h = events.leaf token lo hi (flat_balanced rest h)
flat_balanced (group d lo hi inside rest) {es} h =
    subst Balanced (ap (λ xs. Opens d lo ∷ xs) (sym (flat-append inside [] (Closes d hi ∷ flat_onto rest es))))
    (events.group d lo hi (flat_balanced inside events.nothing) (flat_balanced rest h))

pub flattening_balanced : (forest : Forest) → Balanced (flattening forest)
flattening_balanced forest = flat_balanced forest events.nothing

-- ---- the events while groups are open

pub unclosed-append : (groups : List Opened) (trees : Forest) (es fs : List Event)
    → unclosed_onto groups trees (es ++ fs) ≡ unclosed_onto groups trees es ++ fs
unclosed-append [] trees es fs = flat-append trees es fs
unclosed-append (x ∷ groups) trees es fs =
    ap (λ xs. unclosed_onto groups x.outer (Opens x.delimiter x.lo ∷ xs)) (flat-append trees es fs)
    ∙ unclosed-append groups x.outer (Opens x.delimiter x.lo ∷ flat_onto trees es) fs

pub unclosed-joined : (groups : List Opened) (trees more : Forest) (es : List Event)
    → unclosed_onto groups (chain trees more) es ≡ unclosed_onto groups trees (flat_onto more es)
unclosed-joined [] trees more es = flat_onto-joined trees more es
unclosed-joined (x ∷ groups) trees more es =
    ap (λ xs. unclosed_onto groups x.outer (Opens x.delimiter x.lo ∷ xs)) (flat_onto-joined trees more es)

-- the open groups can be closed, one after another
goes_on : (groups : List Opened) (trees : Forest) {es : List Event} → Balanced es
    → (more : List Event) × Balanced (unclosed_onto groups trees (es ++ more))
goes_on [] trees {es} h = ([], flat_balanced trees (subst Balanced (sym (append-nil es)) h))
goes_on (x ∷ groups) trees {es} h =
    let inside = flat_balanced trees h in
    let closed : Balanced (Opens x.delimiter x.lo ∷ (flat_onto trees es ++ (Closes x.delimiter 0 ∷ []))) =
    events.group x.delimiter x.lo 0 inside events.nothing in
    let outer = goes_on groups x.outer closed in (
      Closes x.delimiter 0 ∷ outer.0,
      subst (λ xs. Balanced (unclosed_onto groups x.outer (Opens x.delimiter x.lo ∷ xs)))
          (append_assoc (flat_onto trees es) (Closes x.delimiter 0 ∷ []) outer.0
          ∙ sym (flat-append trees es (Closes x.delimiter 0 ∷ outer.0)))
          outer.1,
    )

pub unclosed_goes_on : (groups : List Opened) (trees : Forest) → CanGoOn (unclosed_onto groups trees [])
unclosed_goes_on groups trees =
    let more = goes_on groups trees events.nothing in
    (more.0, subst Balanced (unclosed-append groups trees [] more.0) more.1)

-- ---- a reader of events with a stack, by which a closer that can't go on is found

same_delimiter : Delimiter → Delimiter → Bool
same_delimiter Parenthesis Parenthesis = true
same_delimiter Brace Brace = true
same_delimiter Bracket Bracket = true
same_delimiter None None = true
same_delimiter _ _ = false

after_closer : Delimiter → List (Delimiter × ℕ) → Option (List (Delimiter × ℕ))
after_closer d [] = Nothing
after_closer d (x ∷ outer) = cond (same_delimiter x.0 d) (Some outer) Nothing

-- the openers that no closer matches after the events, the innermost first, or `None` if a closer doesn't fit
stack_after : List Event → List (Delimiter × ℕ) → Option (List (Delimiter × ℕ))
stack_after [] stack = Some stack
stack_after (One token lo hi ∷ es) stack = stack_after es stack
stack_after (Opens d lo ∷ es) stack = stack_after es ((d, lo) ∷ stack)
stack_after (Closes d hi ∷ es) stack = option_and_then (stack_after es) (after_closer d stack)

same_delimiter_refl : (d : Delimiter) → same_delimiter d d ≡ true
unfolding same_delimiter
same_delimiter_refl Parenthesis = refl
same_delimiter_refl Brace = refl
same_delimiter_refl Bracket = refl
same_delimiter_refl None = refl

same_delimiter_is : (d e : Delimiter) → same_delimiter d e ≡ true → d ≡ e
unfolding same_delimiter
same_delimiter_is Parenthesis Parenthesis t = refl
same_delimiter_is Brace Brace t = refl
same_delimiter_is Bracket Bracket t = refl
same_delimiter_is None None t = refl
same_delimiter_is _ _ t = cc

-- balanced events leave the stack as it was
balanced_leaves : {es : List Event} → Balanced es → (rest : List Event) (stack : List (Delimiter × ℕ))
    → stack_after (es ++ rest) stack ≡ stack_after rest stack
unfolding stack_after after_closer
balanced_leaves events.nothing rest stack = refl
balanced_leaves (events.leaf token lo hi h) rest stack = balanced_leaves h rest stack
balanced_leaves (events.group d lo hi {inside} {events = es} h k) rest stack =
    ap (λ xs. stack_after xs ((d, lo) ∷ stack)) (append_assoc inside (Closes d hi ∷ es) rest)
    ∙ (balanced_leaves h (Closes d hi ∷ (es ++ rest)) ((d, lo) ∷ stack)
    ∙ (ap (λ b. option_and_then (stack_after (es ++ rest)) (cond b (Some stack) Nothing)) (same_delimiter_refl d)
    ∙ balanced_leaves k rest stack))

abbrev openers : List Opened → List (Delimiter × ℕ)
openers [] = []
openers (x ∷ groups) = (x.delimiter, x.lo) ∷ openers groups

flat_leaves : (trees : Forest) (es : List Event) (stack : List (Delimiter × ℕ))
    → stack_after (flat_onto trees es) stack ≡ stack_after es stack
flat_leaves trees es stack =
    ap (λ xs. stack_after xs stack) (flat-append trees [] es)
    ∙ balanced_leaves (flattening_balanced trees) es stack

unclosed_leaves : (groups : List Opened) (trees : Forest) (es : List Event)
    → stack_after (unclosed_onto groups trees es) [] ≡ stack_after es (openers groups)
unfolding stack_after
unclosed_leaves [] trees es = flat_leaves trees es []
unclosed_leaves (x ∷ groups) trees es =
    unclosed_leaves groups x.outer (Opens x.delimiter x.lo ∷ flat_onto trees es)
    ∙ flat_leaves trees es (openers (x ∷ groups))

stray_leaves : (groups : List Opened) (d : Delimiter) → (FitsInnermost d groups → ⊥)
    → after_closer d (openers groups) ≡ Nothing
unfolding after_closer
stray_leaves [] d apart = refl
stray_leaves (x ∷ groups) d apart =
    cond-false _ _ _ (false_from_ne_true _ (λ t. apart (same_delimiter_is x.delimiter d t)))

pub stray_closer : (groups : List Opened) (trees : Forest) (d : Delimiter) (hi : ℕ)
    → (FitsInnermost d groups → ⊥)
    → CanGoOn (unclosed_onto groups trees [] ++ (Closes d hi ∷ [])) → ⊥
unfolding stack_after
stray_closer groups trees d hi apart more =
    let whole : unclosed_onto groups trees (Closes d hi ∷ more.0)
    ≡ ((unclosed_onto groups trees [] ++ (Closes d hi ∷ [])) ++ more.0) ++ [] =
    unclosed-append groups trees [] (Closes d hi ∷ more.0)
    ∙ sym (append-nil _ ∙ append_assoc (unclosed_onto groups trees []) (Closes d hi ∷ []) more.0) in
    let ends : stack_after (((unclosed_onto groups trees [] ++ (Closes d hi ∷ [])) ++ more.0) ++ []) [] ≡ Some [] =
    balanced_leaves more.1 [] [] in
    let stuck : stack_after (unclosed_onto groups trees (Closes d hi ∷ more.0)) [] ≡ Nothing =
    unclosed_leaves groups trees (Closes d hi ∷ more.0)
    ∙ ap (option_and_then (stack_after more.0)) (stray_leaves groups d apart) in
    let clash : ◌≡◌ {A = Option (List (Delimiter × ℕ))} (Some []) Nothing = sym ends
    ∙ (ap (λ xs. stack_after xs []) (sym whole) ∙ stuck) in
    cc

-- ---- the last opener that no closer matches

after_option : (xs ys : List Event)
    → ((st : List (Delimiter × ℕ)) → stack_after (xs ++ ys) st ≡ option_and_then (stack_after ys) (stack_after xs st))
    → (o : Option (List (Delimiter × ℕ)))
    → option_and_then (stack_after (xs ++ ys)) o ≡ option_and_then (stack_after ys) (option_and_then (stack_after xs) o)
after_option xs ys each Nothing = refl
after_option xs ys each (Some st) = each st

stack_after-append : (xs ys : List Event) (stack : List (Delimiter × ℕ))
    → stack_after (xs ++ ys) stack ≡ option_and_then (stack_after ys) (stack_after xs stack)
unfolding stack_after
stack_after-append [] ys stack = refl
stack_after-append (One token lo hi ∷ xs) ys stack = stack_after-append xs ys stack
stack_after-append (Opens d lo ∷ xs) ys stack = stack_after-append xs ys ((d, lo) ∷ stack)
stack_after-append (Closes d hi ∷ xs) ys stack =
    after_option xs ys (stack_after-append xs ys) (after_closer d stack)

-- if there is a stack at the end, there was one before
some_stack : (ys : List Event) (o : Option (List (Delimiter × ℕ))) (st : List (Delimiter × ℕ))
    → option_and_then (stack_after ys) o ≡ Some st → (low : List (Delimiter × ℕ)) × (o ≡ Some low)
some_stack ys Nothing st h = let clash : ◌≡◌ {A = Option (List (Delimiter × ℕ))} Nothing (Some st) = h in cc
some_stack ys (Some low) st h = (low, refl)

-- an opener with balanced events after it is on top of the stack
top_is : (es front back : List Event) (d : Delimiter) (j : ℕ) (st : List (Delimiter × ℕ)) (more : List Event)
    → stack_after (es ++ more) [] ≡ Some st
    → es ≡ front ++ (Opens d j ∷ back) → Balanced back
    → (low : List (Delimiter × ℕ)) × (stack_after es [] ≡ Some ((d, j) ∷ low))
unfolding stack_after
top_is es front back d j st more h e closed =
    let whole = some_stack more (stack_after es []) st (sym (stack_after-append es more []) ∙ h) in
    let reached = some_stack (Opens d j ∷ back) (stack_after front []) whole.0
    (sym (stack_after-append front (Opens d j ∷ back) []) ∙ (ap (λ xs. stack_after xs []) (sym e) ∙ whole.1)) in
    let after : stack_after back ((d, j) ∷ reached.0) ≡ Some ((d, j) ∷ reached.0) =
    ap (λ xs. stack_after xs ((d, j) ∷ reached.0)) (sym (append-nil back))
    ∙ balanced_leaves closed [] ((d, j) ∷ reached.0) in (
      reached.0,
      ap (λ xs. stack_after xs []) e
          ∙ (stack_after-append front (Opens d j ∷ back) []
          ∙ (ap (option_and_then (stack_after (Opens d j ∷ back))) reached.1 ∙ after)),
    )

balanced_ends : (es : List Event) → Balanced es → stack_after es [] ≡ Some []
unfolding stack_after
balanced_ends es h = ap (λ xs. stack_after xs []) (sym (append-nil es)) ∙ balanced_leaves h [] []

pub one_last_opener : (es front back front' back' : List Event) (d e : Delimiter) (j k : ℕ) → CanGoOn es
    → es ≡ front ++ (Opens d j ∷ back) → Balanced back
    → es ≡ front' ++ (Opens e k ∷ back') → Balanced back' → j ≡ k
one_last_opener es front back front' back' d e j k goes split closed split' closed' =
    let ends = balanced_ends (es ++ goes.0) goes.1 in
    let one = top_is es front back d j [] goes.0 ends split closed in
    let two = top_is es front' back' e k [] goes.0 ends split' closed' in
    let same : ◌≡◌ {A = Option (List (Delimiter × ℕ))} (Some ((d, j) ∷ one.0)) (Some ((e, k) ∷ two.0)) = sym one.1
    ∙ two.1 in
    let tops : ◌≡◌ {A = Delimiter × ℕ} (d, j) (e, k) = cc in
    ap (λ x. x.1) tops

pub balanced_has_none : (es front back : List Event) (d : Delimiter) (j : ℕ) → Balanced es
    → es ≡ front ++ (Opens d j ∷ back) → Balanced back → ⊥
balanced_has_none es front back d j h split closed =
    let one = top_is es front back d j [] [] (balanced_ends (es ++ []) (subst Balanced (sym (append-nil es)) h)) split
    closed in
    let clash : ◌≡◌ {A = Option (List (Delimiter × ℕ))} (Some []) (Some ((d, j) ∷ one.0)) = sym (balanced_ends es h)
    ∙ one.1 in
    cc

-- ---- each flattening belongs to one forest only

abbrev Ends : List Event → Type 0
Ends [] = Unit {0}
Ends (One token lo hi ∷ es) = ⊥
Ends (Opens d lo ∷ es) = ⊥
Ends (Closes d hi ∷ es) = Unit {0}

flat_one : (f g : Forest) (xs ys : List Event) → Ends xs → Ends ys → flat_onto f xs ≡ flat_onto g ys
    → (f ≡ g) × (xs ≡ ys)
flat_one nil nil xs ys p q e = (refl, e)
flat_one nil (leaf t lo hi g) xs ys p q e = absurd (subst Ends e p)
flat_one nil (group d lo hi g k) xs ys p q e = absurd (subst Ends e p)
flat_one (leaf t lo hi f) nil xs ys p q e = absurd (subst Ends (sym e) q)
flat_one (group d lo hi f k) nil xs ys p q e = absurd (subst Ends (sym e) q)
flat_one (leaf t lo hi f) (group d l h g k) xs ys p q e = absurd (cc)
flat_one (group d lo hi f k) (leaf t l h g) xs ys p q e = absurd (cc)
flat_one (leaf t lo hi f) (leaf u l h g) xs ys p q e =
    let rest : flat_onto f xs ≡ flat_onto g ys = cc in
    let more = flat_one f g xs ys p q rest in
    let a : t ≡ u = cc in
    let b : lo ≡ l = cc in
    let c : hi ≡ h = cc in
    let s = more.0 in
    (cc, more.1)
flat_one (group d lo hi f k) (group c l h g m) xs ys p q e =
    let inside : flat_onto f (Closes d hi ∷ flat_onto k xs) ≡ flat_onto g (Closes c h ∷ flat_onto m ys) = cc in
    let deep = flat_one f g (Closes d hi ∷ flat_onto k xs) (Closes c h ∷ flat_onto m ys) tt tt inside in
    let tail = deep.1 in
    let rest : flat_onto k xs ≡ flat_onto m ys = cc in
    let more = flat_one k m xs ys p q rest in
    let a : d ≡ c = cc in
    let b : hi ≡ h = cc in
    let n : lo ≡ l = cc in
    let s = more.0 in
    let r = deep.0 in
    (cc, more.1)

pub one_stream : (f g : Forest) → flattening f ≡ flattening g → f ≡ g
one_stream f g e = (flat_one f g [] [] tt tt e).0
