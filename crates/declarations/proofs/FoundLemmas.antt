-- What rules find, without the labels of the parts.
use Rattle.std.proofs.Common.{◌≡◌, refl, ◌∙◌, ap, length, Bool, true, false, List, [], ◌∷◌}
use Rattle.grammars.specs.Find.{Found, Past, Stuck, and_then, find, front, scan}
use Rattle.grammars.specs.First.{heads}
use Rattle.grammars.specs.Grammar.{Either, Event, Listed, Many, Mark, One, Sign, Then, To, further}
use Rattle.grammars.specs.Machine.{is_nullable}
use Rattle.grammars.proofs.WordLemmas.{find_element, find_first, find_lacks, find_mark, find_more, find_other}
use Rattle.grammars.proofs.WordLemmas.{find_sign}
use Rattle.grammars.proofs.WordLemmas.{find_skips, find_then, find_to}
use Rattle.declarations.specs.Found.{bare, finds}
use Rattle.item_tables.specs.declared.class.SignClass.{SignClass}
use Rattle.declarations.specs.rules.Names.{G, Label, Name}
use Rattle.declarations.specs.rules.Rules.{rules}
use Rattle.declarations.proofs.LoopLemmas.{Fits, scan_fits}

-- what is found, and then what `f` finds in the signs after it, without the events
abbrev pub bind : Found SignClass Label → (List SignClass → Found SignClass Label) → Found SignClass Label
bind (Past events rest) f = f rest
bind (Stuck left) f = Stuck left

bare_front : (events : List (Event SignClass Label)) (f : Found SignClass Label) → bare (front events f) ≡ bare f
bare_front events (Past e r) = refl
bare_front events (Stuck l) = refl

bare_then : (x : Found SignClass Label) (f : List SignClass → Found SignClass Label)
    → bare (and_then x f) ≡ bind (bare x) (λ r. bare (f r))
bare_then (Past e r) f = bare_front e (f r)
bare_then (Stuck l) f = refl

pub bind_bind : (x : Found SignClass Label) (f g : List SignClass → Found SignClass Label)
    → bind (bind x f) g ≡ bind x (λ r. bind (f r) g)
bind_bind (Past e r) f g = refl
bind_bind (Stuck l) f g = refl

-- ---- word by word

pub finds_then : (a b : G) (cs : List SignClass) → finds (Then a b) cs ≡ bind (finds a cs) (finds b)
finds_then a b cs = ap bare (find_then rules a b cs) ∙ bare_then (find rules a cs) (find rules b)

pub finds_marked : (l : Label) (b : G) (cs : List SignClass) → finds (Then (Mark l) b) cs ≡ finds b cs
finds_marked l b cs =
    finds_then (Mark l) b cs ∙ ap (λ x. bind (bare x) (finds b)) (find_mark rules l cs)

pub finds_first : (a b : G) (cs : List SignClass) → heads a cs ≡ true → finds (Either a b) cs ≡ finds a cs
finds_first a b cs h = ap bare (find_first rules a b cs h)

pub finds_other : (a b : G) (cs : List SignClass) → heads a cs ≡ false → is_nullable a ≡ false
    → finds (Either a b) cs ≡ finds b cs
finds_other a b cs h e = ap bare (find_other rules a b cs h e)

pub finds_sign : (passes : SignClass → Bool) (c : SignClass) (cs : List SignClass) → passes c ≡ true
    → finds (Sign passes) (c ∷ cs) ≡ Past [] cs
finds_sign passes c cs h = ap bare (find_sign rules passes c cs h)

pub finds_to : (passes : SignClass → Bool) (n : Name) (c : SignClass) (cs : List SignClass) → passes c ≡ true
    → finds (To passes n) (c ∷ cs) ≡ finds (rules n) cs
finds_to passes n c cs h =
    ap bare (find_to rules passes n c cs h) ∙ bare_front (One c ∷ []) (find rules (rules n) cs)

pub finds_skips : (g : G) (cs : List SignClass) → heads g cs ≡ false → is_nullable g ≡ true → finds g cs ≡ Past [] cs
finds_skips g cs h e = ap bare (find_skips rules g cs h e)

pub finds_lacks : (g : G) (cs : List SignClass) → heads g cs ≡ false → is_nullable g ≡ false → finds g cs ≡ Stuck cs
finds_lacks g cs h e = ap bare (find_lacks rules g cs h e)

pub finds_element : (a s : G) (cs : List SignClass) → heads a cs ≡ true
    → finds (Listed a s) cs ≡ bind (finds a cs) (finds (further a s))
finds_element a s cs h =
    ap bare (find_element rules a s cs h) ∙ bare_then (find rules a cs) (find rules (further a s))

pub finds_more : (a : G) (cs : List SignClass) → heads a cs ≡ true
    → finds (Many a) cs ≡ bind (finds a cs) (finds (Many a))
finds_more a cs h = ap bare (find_more rules a cs h) ∙ bare_then (find rules a cs) (find rules (Many a))

-- ---- with the events again

pub past_found : (g : G) (cs rest : List SignClass) → finds g cs ≡ Past [] rest
    → (events : List (Event SignClass Label)) × (find rules g cs ≡ Past events rest)
past_found g cs rest e = go (find rules g cs) e
  where
    go : (f : Found SignClass Label) → bare f ≡ Past [] rest
        → (events : List (Event SignClass Label)) × (f ≡ Past events rest)
    go (Past events r) h = let same : r ≡ rest = cc in (events, ap (Past events) same)
    go (Stuck l) h = absurd cc

pub stuck_found : (g : G) (cs left : List SignClass) → finds g cs ≡ Stuck left → find rules g cs ≡ Stuck left
stuck_found g cs left e = go (find rules g cs) e
  where
    go : (f : Found SignClass Label) → bare f ≡ Stuck left → f ≡ Stuck left
    go (Past events r) h = absurd cc
    go (Stuck l) h = h

-- no more signs are left than there were
pub find_fits : (g : G) (cs : List SignClass) → Fits (length cs) (finds g cs)
unfolding find
find_fits g cs = go (scan rules (g ∷ []) cs) (scan_fits rules (g ∷ []) cs)
  where
    go : (f : Found SignClass Label) → Fits (length cs) f → Fits (length cs) (bare f)
    go (Past events rest) h = h
    go (Stuck left) h = h
