-- How far a rule reads trees, in terms of how far its parts read them.
use Rattle.std.proofs.Common.{◌≡◌, refl, sym, ◌∙◌, ap, subst, eqb-true, ◌<◌, ◌≤◌, ◌==◌, ◌||◌, Bool, true, false, List}
use Rattle.std.proofs.Common.{[], ◌∷◌, ◌++◌, length, arith}
use Rattle.std.proofs.lemmas.Bool.{eqb-false}
use Rattle.std.proofs.lemmas.List.{length-append}
use Rattle.grammars.specs.First.{heads, may_begin}
use Rattle.grammars.specs.Grammar.{Sign, Mark, Then, Either, Many}
use Rattle.grammars.specs.Machine.{is_nullable}
use Rattle.grammars.specs.Next as machine
use Rattle.grammars.proofs.NextWordLemmas as laws
use Rattle.grammars.proofs.StopLemmas as stops
use Rattle.grammars.proofs.StopLemmas.{sees_as, stop_fewer, stop_still}
use Rattle.pm_stream.specs.declared.stream.TokenTree.{TokenTree}
use Rattle.declarations.specs.Expected.{HasSigns, holds, holds_end}
use Rattle.declarations.specs.Explore.{Explores, Sees}
use Rattle.declarations.specs.Reader.{Remains, classes_in}
use Rattle.declarations.specs.Signs.{BeginsWith, Sign as Read, classes_of, signs, trees_of}
use Rattle.item_tables.specs.declared.class.SignClass.{SignClass}
use Rattle.item_tables.specs.declared.class.SignClass.TheVariants as classes
use Rattle.declarations.specs.declared.expected.Expected.{Expected}
use Rattle.declarations.specs.declared.explore.Seen.{Seen}
use Rattle.item_tables.specs.Classes.{is}
use Rattle.declarations.specs.rules.Names.{G, Label, Name, Rest, comma, comma_list, one}
use Rattle.declarations.specs.rules.Rules.{rules}
use Rattle.declarations.proofs.ReaderLemmas.{remains_on, remains_self, remains_sign, remains_within}
use Rattle.declarations.proofs.ReadingLemmas.{classes-append}

abbrev S : G → List SignClass → List SignClass → (SignClass → Bool) → Bool → Type 0
S g = machine.Sees rules (g ∷ [])

-- ---- trees and their signs

-- the first sign
pub first_sign : (trees rest : List TokenTree) (class : SignClass) → BeginsWith trees class rest
    → classes_in trees ≡ class ∷ classes_in rest
unfolding classes_in
first_sign trees rest class b = ap classes_of b.read

-- if a tree is read, a sign is
pub fewer : (trees left : List TokenTree) → Remains left trees → length left < length trees
    → length (classes_in left) < length (classes_in trees)
unfolding classes_in
fewer trees left r less = go r.front r.read r.whole
  where
    go : (front : List Read) → signs trees ≡ front ++ signs left → trees ≡ trees_of front ++ left
        → length (classes_of (signs left)) < length (classes_of (signs trees))
    go [] read whole = let same = ap length whole in absurd (omega arith)
    go (sign ∷ more) read whole =
        let all = ap length (ap classes_of read ∙ classes-append (sign ∷ more) (signs left)) in
        let sum = length-append (classes_of (sign ∷ more)) (classes_of (signs left)) in
        omega arith

-- if no tree is read, all trees are left
pub all_left : (trees left : List TokenTree) → Remains left trees → length trees ≤ length left → left ≡ trees
all_left trees left r same = go (trees_of r.front) r.whole
  where
    go : (front : List TokenTree) → trees ≡ front ++ left → left ≡ trees
    go [] whole = sym whole
    go (tree ∷ more) whole =
        let sum = ap length whole ∙ length-append (tree ∷ more) left in absurd (omega arith)

-- ---- what is seen

stays_within : (g : G) (cs left : List SignClass) (next : SignClass → Bool) (end : Bool) → S g cs left next end
    → length left ≤ length cs
stays_within g cs left next end s =
    let less = stop_fewer rules (g ∷ []) cs in let same = ap length s.stops in omega arith

stays_all : (g : G) (cs left : List SignClass) (next : SignClass → Bool) (end : Bool) → S g cs left next end
    → length cs ≤ length left
    → left ≡ cs
stays_all g cs left next end s h =
    let same = ap length s.stops in
    sym s.stops ∙ ap (λ x. x.0) (stop_still rules (g ∷ []) cs (stops.all_left rules (g ∷ []) cs (omega arith)))

pub sees_within : (g : G) (trees : List TokenTree) (seen : Seen) → Sees g trees seen
    → length seen.left.now ≤ length trees
sees_within g trees seen e = remains_within trees seen.left.now e.remains

module _ (g : G) (trees left : List TokenTree) where
  -- what is seen, as a set
  pub seen_at : (next : SignClass → Bool) (end : Bool) (seen : Seen) → Remains left trees
      → S g (classes_in trees) (classes_in left) next end → seen.left.now ≡ left → HasSigns seen.next next end
      → Sees g trees seen
  seen_at next end seen r s l h =
      subst (λ x. Explores g trees x seen.next) (sym l)
      (record {
        remains = r;
        sees = sees_as rules (g ∷ []) (classes_in trees) (classes_in left) next (holds seen.next) end
            (holds_end seen.next) h.classes h.end s;
      })

  pub ending : (set : Expected) (b : Bool) → Explores g trees left set → holds_end set ≡ b
      → S g (classes_in trees) (classes_in left) (holds set) b
  ending set b e h =
      sees_as rules (g ∷ []) (classes_in trees) (classes_in left) (holds set) (holds set) (holds_end set) b
      (λ c. refl) (sym h) e.sees

  pub staying : (set : Expected) → Explores g trees left set → length trees ≤ length left
      → S g (classes_in trees) (classes_in trees) (holds set) (holds_end set)
  staying set e h =
      subst (λ x. S g (classes_in trees) (classes_in x) (holds set) (holds_end set))
      (all_left trees left e.remains h) e.sees

-- ---- no sign, and one sign

pub nothing_seen : (g : G) (trees : List TokenTree) (seen : Seen)
    → S g (classes_in trees) (classes_in trees) (λ c. false) true → seen.left.now ≡ trees
    → HasSigns seen.next (λ c. false) true
    → Sees g trees seen
nothing_seen g trees seen s l h = seen_at g trees trees (λ c. false) true seen (remains_self trees) s l h

pub sign_seen : (passes : SignClass → Bool) (trees rest : List TokenTree) (class : SignClass) (seen : Seen)
    → BeginsWith trees class rest → passes class ≡ true → seen.left.now ≡ rest
    → HasSigns seen.next (λ c. false) true
    → Sees (Sign passes) trees seen
sign_seen passes trees rest class seen b h l n =
    seen_at (Sign passes) trees rest (λ c. false) true seen (remains_sign trees rest class b)
    (subst (λ x. S (Sign passes) x (classes_in rest) (λ c. false) true) (sym (first_sign trees rest class b))
    (laws.sign SignClass Name Label rules passes class (classes_in rest) h)) l n

-- a rule that does not begin with the first sign reads none
lacks : (g : G) (cs : List SignClass) → heads g cs ≡ false → S g cs cs (may_begin g) (is_nullable g)
lacks g [] h = laws.at_end SignClass Name Label rules g
lacks g (c ∷ cs) h = laws.lacks SignClass Name Label rules g c cs h

pub none_seen : (g : G) (trees : List TokenTree) (seen : Seen) → heads g (classes_in trees) ≡ false
    → seen.left.now ≡ trees → HasSigns seen.next (may_begin g) (is_nullable g)
    → Sees g trees seen
none_seen g trees seen h l n =
    seen_at g trees trees (may_begin g) (is_nullable g) seen (remains_self trees) (lacks g (classes_in trees) h) l n

-- ---- two rules

module _ (a b : G) (trees : List TokenTree) (first : Seen) (e : Sees a trees first) where
  pub then_second : (second : Seen) → holds_end first.next ≡ true → Sees b first.left.now second
      → length second.left.now < length first.left.now
      → Sees (Then a b) trees second
  then_second second h d m = record {
    remains = remains_on trees first.left.now second.left.now e.remains d.remains;
    sees = laws.then_moves SignClass Name Label rules a b (classes_in trees) (classes_in first.left.now)
        (classes_in second.left.now) (holds first.next) (holds second.next) (holds_end second.next)
        (ending a trees first.left.now first.next true e h) d.sees
        (fewer first.left.now second.left.now d.remains m);
  }

  pub then_both : (second seen : Seen) → holds_end first.next ≡ true → Sees b first.left.now second
      → length first.left.now ≤ length second.left.now → seen.left.now ≡ second.left.now
      → HasSigns seen.next (λ c. holds first.next c || holds second.next c) (holds_end second.next)
      → Sees (Then a b) trees seen
  then_both second seen h d m l n =
      seen_at (Then a b) trees first.left.now (λ c. holds first.next c || holds second.next c) (holds_end second.next)
      seen e.remains
      (laws.then_stays SignClass Name Label rules a b (classes_in trees) (classes_in first.left.now)
      (holds first.next) (holds second.next) (holds_end second.next)
      (ending a trees first.left.now first.next true e h)
      (staying b first.left.now second.left.now second.next d m))
      (l ∙ all_left first.left.now second.left.now d.remains m) n

  pub then_stuck : holds_end first.next ≡ false → Sees (Then a b) trees first
  then_stuck h =
      seen_at (Then a b) trees first.left.now (holds first.next) false first e.remains
      (laws.then_stuck SignClass Name Label rules a b (classes_in trees) (classes_in first.left.now)
      (holds first.next) (ending a trees first.left.now first.next false e h)) refl
      (record { classes = λ c. refl; end = h })

  pub first_seen : length first.left.now < length trees → Sees (Either a b) trees first
  first_seen m = record {
    remains = e.remains;
    sees = laws.first SignClass Name Label rules a b (classes_in trees) (classes_in first.left.now) (holds first.next)
        (holds_end first.next) e.sees (fewer trees first.left.now e.remains m);
  }

  pub second_seen : (second : Seen) → (length first.left.now < length trees → ⊥) → Sees b trees second
      → length second.left.now < length first.left.now
      → Sees (Either a b) trees second
  second_seen second still d m =
      let inside = remains_within trees first.left.now e.remains in record {
        remains = d.remains;
        sees = laws.second SignClass Name Label rules a b (classes_in trees) (classes_in second.left.now)
            (holds first.next) (holds second.next) (holds_end first.next) (holds_end second.next)
            (staying a trees first.left.now first.next e (omega (arith, still))) d.sees
            (fewer trees second.left.now d.remains (omega arith));
      }

  pub neither_seen : (second seen : Seen) → (length first.left.now < length trees → ⊥) → Sees b trees second
      → length first.left.now ≤ length second.left.now → seen.left.now ≡ second.left.now
      → HasSigns seen.next (λ c. holds first.next c || holds second.next c)
      (holds_end first.next || holds_end second.next)
      → Sees (Either a b) trees seen
  neither_seen second seen still d m l n =
      let inside = remains_within trees first.left.now e.remains in
      let none : length trees ≤ length first.left.now = omega (arith, still) in
      let same = all_left trees second.left.now d.remains (omega arith) in
      seen_at (Either a b) trees trees (λ c. holds first.next c || holds second.next c)
      (holds_end first.next || holds_end second.next) seen (remains_self trees)
      (laws.neither SignClass Name Label rules a b (classes_in trees) (holds first.next) (holds second.next)
      (holds_end first.next) (holds_end second.next) (staying a trees first.left.now first.next e none)
      (staying b trees second.left.now second.next d (omega arith))) (l ∙ same) n

-- ---- repetitions

-- what is still read after some repetitions is read by the whole
pub record Repeats (g : G) (trees left : List TokenTree) (set : Expected) : Type 0 where
  pub remains : Remains left trees
  pub moves : (last : List SignClass) (next : SignClass → Bool) (end : Bool)
      → S (Many g) (classes_in left) last next end → length last < length (classes_in left)
      → S (Many g) (classes_in trees) last next end
  pub stays : (next : SignClass → Bool) (end : Bool) → S (Many g) (classes_in left) (classes_in left) next end
      → S (Many g) (classes_in trees) (classes_in left) (λ c. holds set c || next c) end

pub repeats_none : (g : G) (trees left : List TokenTree) (set : Expected) → left ≡ trees
    → HasSigns set (λ c. false) true
    → Repeats g trees left set
repeats_none g trees left set l n =
    subst (λ x. Repeats g trees x set) (sym l)
    (record {
      remains = remains_self trees;
      moves = λ last next end s m. s;
      stays = λ next end s.
          sees_as rules (Many g ∷ []) (classes_in trees) (classes_in trees) next (λ c. holds set c || next c) end end
          (λ c. ap (λ b. b || next c) (n.classes c)) refl s;
    })

module _ (g : G) (trees left : List TokenTree) (set : Expected) (one : Seen) (r : Repeats g trees left set)
    (e : Sees g left one) where
  pub repeats_end : (seen : Seen) → length left ≤ length one.left.now → seen.left.now ≡ left
      → HasSigns seen.next (λ c. holds set c || holds one.next c) true
      → Sees (Many g) trees seen
  repeats_end seen m l n =
      seen_at (Many g) trees left (λ c. holds set c || holds one.next c) true seen r.remains
      (r.stays (holds one.next) true
      (laws.many_stays SignClass Name Label rules g (classes_in left) (holds one.next) (holds_end one.next)
      (staying g left one.left.now one.next e m))) l n

  pub repeats_stuck : length one.left.now < length left → holds_end one.next ≡ false → Sees (Many g) trees one
  repeats_stuck m h =
      let less = fewer left one.left.now e.remains m in
      seen_at (Many g) trees one.left.now (holds one.next) false one
      (remains_on trees left one.left.now r.remains e.remains)
      (r.moves (classes_in one.left.now) (holds one.next) false
      (laws.many_stuck SignClass Name Label rules g (classes_in left) (classes_in one.left.now) (holds one.next)
      (ending g left one.left.now one.next false e h) less) less) refl
      (record { classes = λ c. refl; end = h })

  pub repeats_more : length one.left.now < length left → holds_end one.next ≡ true
      → Repeats g trees one.left.now one.next
  repeats_more m h =
      let less = fewer left one.left.now e.remains m in record {
        remains = remains_on trees left one.left.now r.remains e.remains;
        moves = λ last next end s n.
            r.moves last next end
            (laws.many_moves SignClass Name Label rules g (classes_in left) (classes_in one.left.now) last
            (holds one.next) next end (ending g left one.left.now one.next true e h) less s n) (omega arith);
        stays = λ next end s.
            r.moves (classes_in one.left.now) (λ c. holds one.next c || next c) end
            (laws.many_last SignClass Name Label rules g (classes_in left) (classes_in one.left.now) (holds one.next)
            next end (ending g left one.left.now one.next true e h) less s) less;
      }

-- ---- lists

comma_seen : (trees rest : List TokenTree) → BeginsWith trees classes.Comma rest
    → S comma (classes_in trees) (classes_in rest) (λ c. false) true
comma_seen trees rest b =
    subst (λ x. S comma x (classes_in rest) (λ c. false) true) (sym (first_sign trees rest classes.Comma b))
    (laws.then_moves SignClass Name Label rules (Mark Rest) (one classes.Comma) (classes.Comma ∷ classes_in rest)
    (classes.Comma ∷ classes_in rest) (classes_in rest) (λ c. false) (λ c. false) true
    (laws.mark SignClass Name Label rules Rest (classes.Comma ∷ classes_in rest))
    (laws.sign SignClass Name Label rules (is classes.Comma) classes.Comma (classes_in rest) refl) (omega arith))

-- a `,`
abbrev pub comma_sign : G
comma_sign = one classes.Comma

comma_none : (cs : List SignClass) → heads comma_sign cs ≡ false → S comma cs cs (is classes.Comma) false
comma_none [] h = laws.at_end SignClass Name Label rules comma
comma_none (c ∷ cs) h = laws.lacks SignClass Name Label rules comma c cs h

-- what is still read after some elements and their commas is read by the whole
pub record Lists (g : G) (trees left : List TokenTree) : Type 0 where
  pub remains : Remains left trees
  pub goes : (last : List SignClass) (next : SignClass → Bool) (end : Bool)
      → S (comma_list g) (classes_in left) last next end
      → S (comma_list g) (classes_in trees) last next end

pub lists_none : (g : G) (trees : List TokenTree) → Lists g trees trees
lists_none g trees = record { remains = remains_self trees; goes = λ last next end s. s }

module _ (g : G) (trees left : List TokenTree) (one : Seen) (r : Lists g trees left) (e : Sees g left one) where
  pub lists_end : (seen : Seen) → length left ≤ length one.left.now → seen.left.now ≡ left
      → HasSigns seen.next (holds one.next) true
      → Sees (comma_list g) trees seen
  lists_end seen m l n =
      seen_at (comma_list g) trees left (holds one.next) true seen r.remains
      (r.goes (classes_in left) (holds one.next) true
      (laws.list_stays SignClass Name Label rules g comma (classes_in left) (holds one.next) (holds_end one.next)
      (staying g left one.left.now one.next e m))) l n

  pub lists_stuck : length one.left.now < length left → holds_end one.next ≡ false → Sees (comma_list g) trees one
  lists_stuck m h =
      seen_at (comma_list g) trees one.left.now (holds one.next) false one
      (remains_on trees left one.left.now r.remains e.remains)
      (r.goes (classes_in one.left.now) (holds one.next) false
      (laws.list_stuck SignClass Name Label rules g comma (classes_in left) (classes_in one.left.now)
      (holds one.next) (ending g left one.left.now one.next false e h) (fewer left one.left.now e.remains m))) refl
      (record { classes = λ c. refl; end = h })

  module _ (m : length one.left.now < length left) (h : holds_end one.next ≡ true) where
    less : length (classes_in one.left.now) < length (classes_in left)
    less = fewer left one.left.now e.remains m

    element : S g (classes_in left) (classes_in one.left.now) (holds one.next) true
    element = ending g left one.left.now one.next true e h

    pub lists_element : (seen : Seen) → heads comma_sign (classes_in one.left.now) ≡ false
        → seen.left.now ≡ one.left.now
        → HasSigns seen.next (λ c. is classes.Comma c || holds one.next c) true
        → Sees (comma_list g) trees seen
    lists_element seen n l k =
        seen_at (comma_list g) trees one.left.now (λ c. is classes.Comma c || holds one.next c) true seen
        (remains_on trees left one.left.now r.remains e.remains)
        (r.goes (classes_in one.left.now) (λ c. is classes.Comma c || holds one.next c) true
        (sees_as rules (comma_list g ∷ []) (classes_in left) (classes_in one.left.now)
        (λ c. holds one.next c || is classes.Comma c) (λ c. is classes.Comma c || holds one.next c) true true
        (λ c. swap (is classes.Comma c) (holds one.next c)) refl
        (laws.list_ends SignClass Name Label rules g comma refl (classes_in left) (classes_in one.left.now)
        (holds one.next) (is classes.Comma) false element less
        (comma_none (classes_in one.left.now) n)))) l k
      where
        swap : (x y : Bool) → (x || y) ≡ (y || x)
        swap true true = refl
        swap true false = refl
        swap false true = refl
        swap false false = refl

    pub lists_more : (rest : List TokenTree) → BeginsWith one.left.now classes.Comma rest → Lists g trees rest
    lists_more rest b = record {
      remains = remains_on trees one.left.now rest (remains_on trees left one.left.now r.remains e.remains)
          (remains_sign one.left.now rest classes.Comma b);
      goes = λ last next end s. r.goes last next end (go last next end s);
    }
      where
        after : length (classes_in rest) < length (classes_in one.left.now)
        after = let same = ap length (first_sign one.left.now rest classes.Comma b) in omega arith

        go : (last : List SignClass) (next : SignClass → Bool) (end : Bool)
            → S (comma_list g) (classes_in rest) last next end
            → S (comma_list g) (classes_in left) last next end
        go last next end s = at (length last == length (classes_in rest)) refl
          where
            at : (b : Bool) → (length last == length (classes_in rest)) ≡ b
                → S (comma_list g) (classes_in left) last next end
            at true i =
                let same : length last ≡ length (classes_in rest) = eqb-true _ _ i in
                let whole : last ≡ classes_in rest = stays_all (comma_list g) (classes_in rest) last next end s
                (omega arith) in
                subst (λ x. S (comma_list g) (classes_in left) x next end) (sym whole)
                (laws.list_last SignClass Name Label rules g comma refl (classes_in left) (classes_in one.left.now)
                (classes_in rest) (holds one.next) (λ c. false) next end element less
                (comma_seen one.left.now rest b) after
                (subst (λ x. S (comma_list g) (classes_in rest) x next end) whole s))
            at false i =
                let other = eqb-false (length last) (length (classes_in rest)) i in
                let inside = stays_within (comma_list g) (classes_in rest) last next end s in
                laws.list_moves SignClass Name Label rules g comma refl (classes_in left) (classes_in one.left.now)
                (classes_in rest) last (holds one.next) (λ c. false) next end element less
                (comma_seen one.left.now rest b) after s (omega (arith, other))
