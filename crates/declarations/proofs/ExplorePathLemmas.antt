-- How far a path reads, in terms of how far its parts read.
use Rattle.std.proofs.Common.{◌≡◌, refl, sym, ◌∙◌, ap, subst, Bool, true, false, ◌||◌, List, [], ◌∷◌, Some}
use Rattle.std.proofs.Common.{arith}
use Rattle.std.specs.Prelude.{Result, Ok, Err}
use Rattle.std.specs.Borrow.{Bor}
use Rattle.grammars.specs.First.{heads, may_begin, starts}
use Rattle.grammars.specs.Grammar.{Event, One, Mark, Marked, Then, To}
use Rattle.grammars.specs.Machine as machine
use Rattle.grammars.specs.Machine.{is_nullable}
use Rattle.grammars.specs.Next.{stop}
use Rattle.grammars.proofs.NextWordLemmas as laws
use Rattle.grammars.proofs.StopLemmas.{stop_some}
use Rattle.pm_stream.specs.declared.stream.TokenTree.{TokenTree}
use Rattle.declarations.specs.Expected.{HasSigns, holds, holds_end}
use Rattle.declarations.specs.Explore.{Sees}
use Rattle.declarations.specs.ExplorePath.{GoesInto, Turns, path_at}
use Rattle.declarations.specs.Reader.{classes_in}
use Rattle.declarations.specs.Signs.{BeginsWith}
use Rattle.item_tables.specs.declared.class.SignClass.{SignClass}
use Rattle.item_tables.specs.declared.class.SignClass.TheVariants as signs
use Rattle.declarations.specs.declared.explore.Seen.{Seen}
use Rattle.declarations.specs.declared.explore_path.PathPlace.{PathPlace}
use Rattle.item_tables.specs.Classes.{is, is_round, opens}
use Rattle.declarations.specs.rules.Names.{AfterArguments, AfterName, AfterSeparator, G, Label, Name, Path, Rest}
use Rattle.declarations.specs.rules.Names.{Returns}
use Rattle.declarations.specs.rules.Paths as rule
use Rattle.declarations.specs.rules.Rules.{rules}
use Rattle.declarations.specs.rules.Types.{type}
use Rattle.declarations.proofs.ClassLemmas.{same_class}
use Rattle.declarations.proofs.ExploreLemmas.{ending, fewer, first_sign, none_seen, sees_within}
use Rattle.declarations.proofs.ReaderLemmas.{heads_none, heads_sign, remains_on, remains_sign, remains_within}

-- ---- from one rule into another

-- the machine steps from the rule `g` to the rule `h`
module _ (g h : G) (trees rest : List TokenTree) (class : SignClass) (events : List (Event SignClass Label))
    (b : BeginsWith trees class rest) (e : machine.step rules (g ∷ []) class ≡ Some (events, h ∷ [])) where
  same_stop : stop rules (g ∷ []) (classes_in trees) ≡ stop rules (h ∷ []) (classes_in rest)
  same_stop =
      ap (stop rules (g ∷ [])) (first_sign trees rest class b)
      ∙ stop_some rules (g ∷ []) class (classes_in rest) (events, h ∷ []) e

  pub step_goes : GoesInto g trees h rest
  step_goes = record {
    fewer = b.fewer;
    goes = λ left next s. record {
      remains = remains_on trees rest left (remains_sign trees rest class b) s.remains;
      sees = record {
        stops = ap (λ x. x.0) same_stop ∙ s.sees.stops;
        nexts = λ c. s.sees.nexts c ∙ ap (λ x. starts x.1 c) (sym same_stop);
        ended = s.sees.ended ∙ ap (λ x. machine.ends x.1) (sym same_stop);
      };
    };
  }

pub goes_on : (g h k : G) (trees mid rest : List TokenTree) → GoesInto g trees h mid → GoesInto h mid k rest
    → GoesInto g trees k rest
goes_on g h k trees mid rest a b = record {
  fewer = let one = a.fewer in let two = b.fewer in omega arith;
  goes = λ left next s. a.goes left next (b.goes left next s);
}

pub goes_sees : (g h : G) (trees mid : List TokenTree) (seen : Seen) → GoesInto g trees h mid → Sees h mid seen
    → Sees g trees seen
goes_sees g h trees mid seen a s = a.goes seen.left.now seen.next s

pub goes_turns : (g h : G) (trees mid : List TokenTree) (result : Result (PathPlace × Bor (List TokenTree)) Seen)
    → GoesInto g trees h mid → Turns h mid result
    → Turns g trees result
goes_turns g h trees mid (Ok found) a t = goes_on g h (path_at found.0) trees mid found.1.now a t
goes_turns g h trees mid (Err seen) a t = goes_sees g h trees mid seen a t

-- a sign that passes the test of a class has this class
begins_as : (trees rest : List TokenTree) (x class : SignClass) → BeginsWith trees class rest → is x class ≡ true
    → BeginsWith trees x rest
begins_as trees rest x class b h = subst (λ c. BeginsWith trees c rest) (same_class x class h) b

-- ---- no sign is read

-- the first set of the rule is that of three tests
module _ (g : G) (one two three : SignClass → Bool) (end : Bool)
    (begins : (c : SignClass) → may_begin g c ≡ (one c || (two c || three c))) (last : is_nullable g ≡ end)
    (trees : List TokenTree) (seen : Seen) (l : seen.left.now ≡ trees)
    (n : HasSigns seen.next (λ c. one c || (two c || three c)) end) where
  unread : heads g (classes_in trees) ≡ false → Sees g trees seen
  unread h =
      none_seen g trees seen h l
      (record { classes = λ c. n.classes c ∙ sym (begins c); end = n.end ∙ sym last })

  unread_end : trees ≡ [] → Sees g trees seen
  unread_end e = unread (heads_none g trees e)

  unread_sign : (rest : List TokenTree) (class : SignClass) → BeginsWith trees class rest → one class ≡ false
      → two class ≡ false → three class ≡ false
      → Sees g trees seen
  unread_sign rest class b h i j =
      unread (heads_sign g trees rest class b ∙ (begins class ∙ go (one class) (two class) (three class) h i j))
    where
      go : (x y z : Bool) → x ≡ false → y ≡ false → z ≡ false → (x || (y || z)) ≡ false
      go x y z e f k = rw (e, f, k) refl

begins_name : (c : SignClass)
    → may_begin (rule.path AfterName) c ≡ (opens c || (is_round c || is signs.PathSeparator c))
begins_name c = go (opens c) (is_round c) (is signs.PathSeparator c)
  where
    go : (x y z : Bool) → (((x || false) || ((y || false) || z)) || false) ≡ (x || (y || z))
    go true y z = refl
    go false true z = refl
    go false false true = refl
    go false false false = refl

begins_separator : (c : SignClass)
    → may_begin (rule.path AfterSeparator) c ≡ (opens c || (is_round c || rule.is_segment c))
begins_separator c = go (opens c) (is_round c) (rule.is_segment c)
  where
    go : (x y z : Bool) → ((x || false) || ((y || false) || z)) ≡ (x || (y || z))
    go true y z = refl
    go false true z = refl
    go false false z = refl

begins_arguments : (c : SignClass) → may_begin (rule.path AfterArguments) c
    ≡ (is signs.PathSeparator c || (is signs.PathSeparator c || is signs.PathSeparator c))
begins_arguments c = go (is signs.PathSeparator c)
  where
    go : (x : Bool) → ((x || false) || false) ≡ (x || (x || x))
    go true = refl
    go false = refl

begins_round : (c : SignClass) → may_begin rule.round_rest c
    ≡ (is signs.Arrow c || (is signs.PathSeparator c || is signs.PathSeparator c))
begins_round c = go (is signs.Arrow c) (is signs.PathSeparator c)
  where
    go : (x y : Bool) → (((x || false) || (y || false)) || false) ≡ (x || (y || y))
    go true y = refl
    go false true = refl
    go false false = refl

begins_path : (c : SignClass) → may_begin rule.type_path c
    ≡ (is signs.PathSeparator c || (rule.is_segment c || rule.is_segment c))
begins_path c = go (is signs.PathSeparator c) (rule.is_segment c)
  where
    go : (x y : Bool) → ((x || false) || y) ≡ (x || (y || y))
    go true y = refl
    go false true = refl
    go false false = refl

pub name_unread : (trees : List TokenTree) (seen : Seen) → seen.left.now ≡ trees
    → HasSigns seen.next (λ c. opens c || (is_round c || is signs.PathSeparator c)) true → (rest : List TokenTree)
    (class : SignClass) → BeginsWith trees class rest → opens class ≡ false → is_round class ≡ false
    → is signs.PathSeparator class ≡ false
    → Sees (rule.path AfterName) trees seen
name_unread =
    unread_sign (rule.path AfterName) opens is_round (is signs.PathSeparator) true begins_name refl

pub name_end : (trees : List TokenTree) (seen : Seen) → seen.left.now ≡ trees
    → HasSigns seen.next (λ c. opens c || (is_round c || is signs.PathSeparator c)) true → trees ≡ []
    → Sees (rule.path AfterName) trees seen
name_end = unread_end (rule.path AfterName) opens is_round (is signs.PathSeparator) true begins_name refl

pub separator_unread : (trees : List TokenTree) (seen : Seen) → seen.left.now ≡ trees
    → HasSigns seen.next (λ c. opens c || (is_round c || rule.is_segment c)) false → (rest : List TokenTree)
    (class : SignClass) → BeginsWith trees class rest → opens class ≡ false → is_round class ≡ false
    → rule.is_segment class ≡ false
    → Sees (rule.path AfterSeparator) trees seen
separator_unread =
    unread_sign (rule.path AfterSeparator) opens is_round rule.is_segment false begins_separator refl

pub separator_end : (trees : List TokenTree) (seen : Seen) → seen.left.now ≡ trees
    → HasSigns seen.next (λ c. opens c || (is_round c || rule.is_segment c)) false → trees ≡ []
    → Sees (rule.path AfterSeparator) trees seen
separator_end = unread_end (rule.path AfterSeparator) opens is_round rule.is_segment false begins_separator refl

-- the test of `::`
abbrev separates : SignClass → Bool
separates = is signs.PathSeparator

pub arguments_unread : (trees : List TokenTree) (seen : Seen) → seen.left.now ≡ trees
    → HasSigns seen.next (λ c. separates c || (separates c || separates c)) true → (rest : List TokenTree)
    (class : SignClass) → BeginsWith trees class rest → separates class ≡ false
    → Sees (rule.path AfterArguments) trees seen
arguments_unread trees seen l n rest class b h =
    unread_sign (rule.path AfterArguments) separates separates separates true begins_arguments refl trees seen l n
    rest class b h h h

pub arguments_end : (trees : List TokenTree) (seen : Seen) → seen.left.now ≡ trees
    → HasSigns seen.next (λ c. separates c || (separates c || separates c)) true → trees ≡ []
    → Sees (rule.path AfterArguments) trees seen
arguments_end = unread_end (rule.path AfterArguments) separates separates separates true begins_arguments refl

pub round_unread : (trees : List TokenTree) (seen : Seen) → seen.left.now ≡ trees
    → HasSigns seen.next (λ c. is signs.Arrow c || (separates c || separates c)) true → (rest : List TokenTree)
    (class : SignClass) → BeginsWith trees class rest → is signs.Arrow class ≡ false → separates class ≡ false
    → Sees rule.round_rest trees seen
round_unread trees seen l n rest class b h i =
    unread_sign rule.round_rest (is signs.Arrow) separates separates true begins_round refl trees seen l n rest class
    b h i i

pub round_end : (trees : List TokenTree) (seen : Seen) → seen.left.now ≡ trees
    → HasSigns seen.next (λ c. is signs.Arrow c || (separates c || separates c)) true → trees ≡ []
    → Sees rule.round_rest trees seen
round_end = unread_end rule.round_rest (is signs.Arrow) separates separates true begins_round refl

pub path_unread : (trees : List TokenTree) (seen : Seen) → seen.left.now ≡ trees
    → HasSigns seen.next (λ c. separates c || (rule.is_segment c || rule.is_segment c)) false
    → (rest : List TokenTree) (class : SignClass) → BeginsWith trees class rest → separates class ≡ false
    → rule.is_segment class ≡ false
    → Sees rule.type_path trees seen
path_unread trees seen l n rest class b h i =
    unread_sign rule.type_path separates rule.is_segment rule.is_segment false begins_path refl trees seen l n rest
    class b h i i

pub path_end : (trees : List TokenTree) (seen : Seen) → seen.left.now ≡ trees
    → HasSigns seen.next (λ c. separates c || (rule.is_segment c || rule.is_segment c)) false → trees ≡ []
    → Sees rule.type_path trees seen
path_end = unread_end rule.type_path separates rule.is_segment rule.is_segment false begins_path refl

-- ---- the signs of a path

pub segment_goes : (trees rest : List TokenTree) (class : SignClass) → BeginsWith trees class rest
    → rule.is_segment class ≡ true
    → GoesInto rule.segment trees (rule.path AfterName) rest
segment_goes trees rest class b h =
    step_goes rule.segment (rule.path AfterName) trees rest class (One class ∷ []) b (rw h refl)

pub segment_unread : (trees : List TokenTree) (seen : Seen) → seen.left.now ≡ trees
    → HasSigns seen.next rule.is_segment false → (rest : List TokenTree) (class : SignClass)
    → BeginsWith trees class rest → rule.is_segment class ≡ false
    → Sees rule.segment trees seen
segment_unread trees seen l n rest class b h =
    none_seen rule.segment trees seen (heads_sign rule.segment trees rest class b ∙ h) l n

pub segment_end : (trees : List TokenTree) (seen : Seen) → seen.left.now ≡ trees
    → HasSigns seen.next rule.is_segment false → trees ≡ []
    → Sees rule.segment trees seen
segment_end trees seen l n e = none_seen rule.segment trees seen (heads_none rule.segment trees e) l n

module _ (trees rest : List TokenTree) (class : SignClass) (b : BeginsWith trees class rest) where
  pub name_opens : opens class ≡ true → GoesInto (rule.path AfterName) trees rule.angle_rest rest
  name_opens h = step_goes (rule.path AfterName) rule.angle_rest trees rest class (One class ∷ []) b (rw h refl)

  pub name_round : opens class ≡ false → is_round class ≡ true
      → GoesInto (rule.path AfterName) trees rule.round_rest rest
  name_round h i =
      step_goes (rule.path AfterName) rule.round_rest trees rest class (One class ∷ []) b (rw (h, i) refl)

  pub name_separator : is signs.PathSeparator class ≡ true
      → GoesInto (rule.path AfterName) trees (rule.path AfterSeparator) rest
  name_separator h =
      step_goes (rule.path AfterName) (rule.path AfterSeparator) trees rest signs.PathSeparator
      (One signs.PathSeparator ∷ []) (begins_as trees rest signs.PathSeparator class b h) refl

  pub separator_opens : opens class ≡ true → GoesInto (rule.path AfterSeparator) trees rule.angle_rest rest
  separator_opens h =
      step_goes (rule.path AfterSeparator) rule.angle_rest trees rest class (One class ∷ []) b (rw h refl)

  pub separator_round : opens class ≡ false → is_round class ≡ true
      → GoesInto (rule.path AfterSeparator) trees rule.round_rest rest
  separator_round h i =
      step_goes (rule.path AfterSeparator) rule.round_rest trees rest class (One class ∷ []) b (rw (h, i) refl)

  pub separator_name : opens class ≡ false → is_round class ≡ false → rule.is_segment class ≡ true
      → GoesInto (rule.path AfterSeparator) trees (rule.path AfterName) rest
  separator_name h i j =
      step_goes (rule.path AfterSeparator) (rule.path AfterName) trees rest class (One class ∷ []) b
      (rw (h, i, j) refl)

  module _ (h : is signs.PathSeparator class ≡ true) where
    pub arguments_separator : GoesInto (rule.path AfterArguments) trees rule.segment rest
    arguments_separator =
        step_goes (rule.path AfterArguments) rule.segment trees rest signs.PathSeparator
        (One signs.PathSeparator ∷ []) (begins_as trees rest signs.PathSeparator class b h) refl

    pub round_separator : GoesInto rule.round_rest trees rule.segment rest
    round_separator =
        step_goes rule.round_rest rule.segment trees rest signs.PathSeparator (One signs.PathSeparator ∷ [])
        (begins_as trees rest signs.PathSeparator class b h) refl

    pub path_separator : GoesInto rule.type_path trees rule.segment rest
    path_separator =
        step_goes rule.type_path rule.segment trees rest signs.PathSeparator (One signs.PathSeparator ∷ [])
        (begins_as trees rest signs.PathSeparator class b h) refl

  pub round_arrow : is signs.Arrow class ≡ true
      → GoesInto rule.round_rest trees (Then (Mark Returns) type) rest
  round_arrow h =
      step_goes rule.round_rest (Then (Mark Returns) type) trees rest signs.Arrow
      (Marked Rest ∷ One signs.Arrow ∷ []) (begins_as trees rest signs.Arrow class b h) refl

  pub path_name : is signs.PathSeparator class ≡ false → rule.is_segment class ≡ true
      → GoesInto rule.type_path trees (rule.path AfterName) rest
  path_name h i =
      step_goes rule.type_path (rule.path AfterName) trees rest class (One class ∷ []) b (rw (h, i) refl)

-- ---- the end of angle brackets

-- `>` and the rest of the path
abbrev pub closing : G
closing = To (is signs.Greater) (Path AfterArguments)

pub closing_unread : (trees : List TokenTree) (seen : Seen) → seen.left.now ≡ trees
    → HasSigns seen.next (is signs.Greater) false → (rest : List TokenTree) (class : SignClass)
    → BeginsWith trees class rest → is signs.Greater class ≡ false
    → Sees closing trees seen
closing_unread trees seen l n rest class b h =
    none_seen closing trees seen (heads_sign closing trees rest class b ∙ h) l n

pub closing_end : (trees : List TokenTree) (seen : Seen) → seen.left.now ≡ trees
    → HasSigns seen.next (is signs.Greater) false → trees ≡ []
    → Sees closing trees seen
closing_end trees seen l n e = none_seen closing trees seen (heads_none closing trees e) l n

module _ (trees rest : List TokenTree) (inside : Seen) (class : SignClass)
    (e : Sees rule.generic_arguments trees inside) (h : holds_end inside.next ≡ true)
    (b : BeginsWith inside.left.now class rest) (i : is signs.Greater class ≡ true) where
  closes : GoesInto closing inside.left.now (rule.path AfterArguments) rest
  closes =
      step_goes closing (rule.path AfterArguments) inside.left.now rest signs.Greater (One signs.Greater ∷ [])
      (begins_as inside.left.now rest signs.Greater class b i) refl

  pub angle_goes : GoesInto rule.angle_rest trees (rule.path AfterArguments) rest
  angle_goes = record {
    fewer =
        let within = sees_within rule.generic_arguments trees inside e in
        let less = b.fewer in
        omega arith;
    goes = λ left next s.
        let d = closes.goes left next s in
        let within = remains_within rest left s.remains in
        let less = b.fewer in
        record {
          remains = remains_on trees inside.left.now left e.remains d.remains;
          sees = laws.then_moves SignClass Name Label rules rule.generic_arguments closing (classes_in trees)
              (classes_in inside.left.now) (classes_in left) (holds inside.next) (holds next) (holds_end next)
              (ending rule.generic_arguments trees inside.left.now inside.next true e h) d.sees
              (fewer inside.left.now left d.remains (omega arith));
        };
  }
