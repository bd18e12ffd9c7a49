-- The loop that fills a template, tree by tree.
use Rattle.std.proofs.Common.{◌≡◌, ℕ, Bool, true, false, zero, suc, All, Option, Some, None, Ok, Err, List, [], ◌∷◌}
use Rattle.std.proofs.Common.{drop, length, refl, sym, ap, ap₂, subst, ◌∙◌, arith}
use Rattle.std.proofs.lemmas.List.Elements.{All-drop}
use Rattle.proc_macro2.specs.Forest.{Forest, nil, leaf, group, chain}
use Rattle.proc_macro2.specs.Leaf.{mark_token, name_token, text_token}
use Rattle.proc_macro2.specs.Leaf as leaves
use Rattle.proc_macro2.specs.Trees.{GoesInside, alone, before, forest}
use Rattle.proc_macro2.specs.Token.{Token}
use Rattle.proc_macro2.specs.declared.Group.{Group as Grouped}
use Rattle.proc_macro2.specs.declared.TokenTree.{TokenTree}
use Rattle.proc_macro2.specs.declared.TokenTree.TheVariants.{Group, Ident, Punct, Literal}
use Rattle.quoting.specs.Filled.{then_outcome, enclosed_in, has_meaning, replacement, set_apart, filled_by}
use Rattle.quoting.specs.Given.{UnlessMemory, apart, apart_before, gives, in_turns, inside_at, interpolation_of}
use Rattle.quoting.specs.Given.{span_of}
use Rattle.quoting.specs.Given.{text_of}
use Rattle.quoting.specs.Holes.{Outcome, filling_of, put_in}
use Rattle.quoting.specs.Interpolation.{Interpolation, Names, tree_count}
use Rattle.quoting.specs.declared.errors.TemplateError.{TemplateError}
use Rattle.quoting.specs.declared.holes.Hole.{Hole}
use Rattle.quoting.specs.declared.holes.HoleName.{HoleName}
use Rattle.quoting.specs.declared.errors.TemplateError.TheVariants.{NoHole, LoneList, NoList, UnequalLists}
use Rattle.quoting.specs.declared.errors.TemplateError.TheVariants.{NotIdent, NotFinite, TooDeep, Parse, Memory}
use Rattle.quoting.proofs.PartLemmas.{joined_assoc, joined_nil}

-- the outcome of a hole or a repetition at a given depth
abbrev pub Giving : Type 0
Giving = ℕ → Interpolation → Outcome

pub unless_weaker : (fault : TemplateError) (P Q : Type 0) → (P → Q) → UnlessMemory fault P → UnlessMemory fault Q
unless_weaker (NoHole span) P Q f h = f h
unless_weaker (LoneList span) P Q f h = f h
unless_weaker (NoList span) P Q f h = f h
unless_weaker (UnequalLists span) P Q f h = f h
unless_weaker (NotIdent span) P Q f h = f h
unless_weaker (NotFinite span) P Q f h = f h
unless_weaker (TooDeep span) P Q f h = f h
unless_weaker (Parse error) P Q f h = absurd h
unless_weaker (Memory error) P Q f h = tt

-- ---- outcomes one after the other

pub followed_nil : (o : Outcome) → then_outcome (Ok nil) o ≡ o
followed_nil (Ok f) = refl
followed_nil (Err fault) = refl

pub followed_more : (f g : Forest) (o : Outcome)
    → then_outcome (Ok f) (then_outcome (Ok g) o) ≡ then_outcome (Ok (chain f g)) o
followed_more f g (Ok h) = ap Ok (sym (joined_assoc f g h))
followed_more f g (Err fault) = refl

-- ---- one tree

-- the trees of a hole or a repetition, which are skipped
pub passed_over : (given : Giving) (depth n : ℕ) (ts : List TokenTree)
    → filled_by given depth n (forest ts) ≡ filled_by given depth 0 (forest (drop n ts))
passed_over given depth zero ts = refl
passed_over given depth (suc n) [] = refl
passed_over given depth (suc n) (Group g ∷ ts) = passed_over given depth n ts
passed_over given depth (suc n) (Ident i ∷ ts) = passed_over given depth n ts
passed_over given depth (suc n) (Punct p ∷ ts) = passed_over given depth n ts
passed_over given depth (suc n) (Literal l ∷ ts) = passed_over given depth n ts

-- the outcome of a token, by the hole or repetition that it begins
abbrev by_interpolation : Giving → ℕ → Token → ℕ → ℕ → Forest → Option Interpolation → Outcome
by_interpolation given depth token lo hi rest s =
    then_outcome (replacement (given depth) token lo hi s) (filled_by given depth (tree_count s) rest)

-- a token with its span. A mark may become Alone
apart_name : (i : leaves.Name) (b : Bool)
    → leaf (set_apart b (name_token i)) i.span.lo i.span.hi nil ≡ alone (apart b (Ident i))
apart_name i false = refl
apart_name i true = refl

apart_mark : (p : leaves.Mark) (b : Bool)
    → leaf (set_apart b (mark_token p)) p.span.lo p.span.hi nil ≡ alone (apart b (Punct p))
apart_mark p false = refl
apart_mark p true = refl

apart_text : (l : leaves.Text) (b : Bool)
    → leaf (set_apart b (text_token l)) l.span.lo l.span.hi nil ≡ alone (apart b (Literal l))
apart_text l false = refl
apart_text l true = refl

pub token_alone : (given : Giving) (depth : ℕ) (t : TokenTree) (rest : Forest) → ((g : Grouped) → t ≡ Group g → ⊥)
    → interpolation_of t rest ≡ None
    → filled_by given depth 0 (before t rest)
    ≡ then_outcome (Ok (alone (apart_before rest t))) (filled_by given depth 0 rest)
token_alone given depth (Group g) rest other h = absurd (other g refl)
token_alone given depth (Ident i) rest other h =
    ap (by_interpolation given depth (set_apart (has_meaning rest) (name_token i)) i.span.lo i.span.hi rest) h
    ∙ ap (λ f. then_outcome (Ok f) (filled_by given depth 0 rest)) (apart_name i (has_meaning rest))
token_alone given depth (Punct p) rest other h =
    ap (by_interpolation given depth (set_apart (has_meaning rest) (mark_token p)) p.span.lo p.span.hi rest) h
    ∙ ap (λ f. then_outcome (Ok f) (filled_by given depth 0 rest)) (apart_mark p (has_meaning rest))
token_alone given depth (Literal l) rest other h =
    ap (by_interpolation given depth (set_apart (has_meaning rest) (text_token l)) l.span.lo l.span.hi rest) h
    ∙ ap (λ f. then_outcome (Ok f) (filled_by given depth 0 rest)) (apart_text l (has_meaning rest))

pub begins_some : (given : Giving) (depth : ℕ) (t : TokenTree) (rest : Forest) (s : Interpolation)
    → interpolation_of t rest ≡ Some s
    → filled_by given depth 0 (before t rest)
    ≡ then_outcome (given depth s) (filled_by given depth (tree_count (Some s)) rest)
begins_some given depth (Group g) rest s h = absurd (cc)
begins_some given depth (Ident i) rest s h =
    ap (by_interpolation given depth (set_apart (has_meaning rest) (name_token i)) i.span.lo i.span.hi rest) h
begins_some given depth (Punct p) rest s h =
    ap (by_interpolation given depth (set_apart (has_meaning rest) (mark_token p)) p.span.lo p.span.hi rest) h
begins_some given depth (Literal l) rest s h =
    ap (by_interpolation given depth (set_apart (has_meaning rest) (text_token l)) l.span.lo l.span.hi rest) h

pub group_filled : (given : Giving) (depth : ℕ) (g : Grouped) (inside rest : Forest)
    → inside_at given depth g ≡ Ok inside
    → filled_by given depth 0 (before (Group g) rest)
    ≡ then_outcome (Ok (group g.delimiter g.span.lo g.span.hi inside nil)) (filled_by given depth 0 rest)
group_filled given zero g inside rest h = absurd (cc)
group_filled given (suc depth) g inside rest h =
    ap (λ o. then_outcome (enclosed_in g.delimiter g.span.lo g.span.hi o) (filled_by given (suc depth) 0 rest)) h

pub group_fault : (given : Giving) (depth : ℕ) (g : Grouped) (fault : TemplateError) (rest : Forest)
    → inside_at given depth g ≡ Err fault
    → filled_by given depth 0 (before (Group g) rest) ≡ Err fault
group_fault given zero g fault rest h = h
group_fault given (suc depth) g fault rest h =
    ap (λ o. then_outcome (enclosed_in g.delimiter g.span.lo g.span.hi o) (filled_by given (suc depth) 0 rest)) h

-- ---- the state of the loop

-- the result so far, followed by the outcome of the trees that are left, is the whole result. The trees that are left
-- can be part of a stream
pub record IsUpTo (given : Giving) (depth : ℕ) (was all out : Forest) (left : List TokenTree) : Type 0 where
  pub so_far :
      then_outcome (Ok was) (filled_by given depth 0 all)
      ≡ then_outcome (Ok out) (filled_by given depth 0 (forest left))
  pub inside : All GoesInside left

pub step : (given : Giving) (depth n : ℕ) (old all out new part : Forest) (t : TokenTree)
    (left after rest : List TokenTree)
    → IsUpTo given depth old all out left → left ≡ t ∷ after → rest ≡ drop n after
    → filled_by given depth 0 (before t (forest after))
    ≡ then_outcome (Ok part) (filled_by given depth n (forest after))
    → new ≡ chain out part → IsUpTo given depth old all new rest
step given depth n old all out new part t left after rest was whole drops one put = record {
  so_far =
      was.so_far
      ∙ (ap (λ ts. then_outcome (Ok out) (filled_by given depth 0 (forest ts))) whole
      ∙ (ap (then_outcome (Ok out)) (one ∙ ap (then_outcome (Ok part)) (passed_over given depth n after))
      ∙ (followed_more out part (filled_by given depth 0 (forest (drop n after)))
      ∙ ap₂ (λ f ts. then_outcome (Ok f) (filled_by given depth 0 (forest ts))) (sym put) (sym drops))));
  inside =
      subst (All GoesInside) (sym drops)
      (All-drop GoesInside n after
      (subst (λ ts. All GoesInside (drop 1 ts)) whole (All-drop GoesInside 1 left was.inside)));
}

-- the tree can be part of a stream, also if it is a mark that becomes Alone
apart_inside : (b : Bool) (t : TokenTree) → GoesInside t → GoesInside (apart b t)
apart_inside false t inside = inside
apart_inside true (Group g) inside = inside
apart_inside true (Ident i) inside = inside
apart_inside true (Punct p) inside = inside
apart_inside true (Literal l) inside = inside

pub copy_inside : (given : Giving) (depth : ℕ) (old all out : Forest) (t copy : TokenTree)
    (left after : List TokenTree)
    → IsUpTo given depth old all out left → left ≡ t ∷ after → copy ≡ apart_before (forest after) t → GoesInside copy
copy_inside given depth old all out t copy left after was whole cloned =
    subst GoesInside (sym cloned)
    (apart_inside (has_meaning (forest after)) t (subst (All GoesInside) whole was.inside 0 t (omega arith)))

-- one step at a token that begins neither a hole nor a repetition
pub token_step : (given : Giving) (depth : ℕ) (old all out new : Forest) (t copy : TokenTree)
    (left after : List TokenTree)
    → IsUpTo given depth old all out left → left ≡ t ∷ after → ((g : Grouped) → t ≡ Group g → ⊥)
    → None ≡ interpolation_of t (forest after)
    → copy ≡ apart_before (forest after) t → new ≡ chain out (alone copy) → IsUpTo given depth old all new after
token_step given depth old all out new t copy left after was whole other none cloned put =
    step given depth 0 old all out new (alone (apart_before (forest after) t)) t left after after was whole refl
    (token_alone given depth t (forest after) other (sym none)) (put ∙ ap (λ u. chain out (alone u)) cloned)

-- one step at a group
pub group_step : (given : Giving) (depth : ℕ) (old all out new inside : Forest) (t : TokenTree) (g filled : Grouped)
    (left after : List TokenTree)
    → IsUpTo given depth old all out left → left ≡ t ∷ after → t ≡ Group g → inside_at given depth g ≡ Ok inside
    → filled ≡ record g { stream = inside } → new ≡ chain out (alone (Group filled))
    → IsUpTo given depth old all new after
group_step given depth old all out new inside t g filled left after was whole is fills regrouped put =
    step given depth 0 old all out new (group g.delimiter g.span.lo g.span.hi inside nil) t left after after was whole
    refl
    (ap (λ u. filled_by given depth 0 (before u (forest after))) is
    ∙ group_filled given depth g inside (forest after) fills)
    (put ∙ ap (λ u. chain out (alone (Group u))) regrouped)

-- one step at a hole or a repetition
pub found_step : (given : Giving) (depth : ℕ) (old all out new part : Forest) (t : TokenTree) (found : Interpolation)
    (left after rest : List TokenTree)
    → IsUpTo given depth old all out left → left ≡ t ∷ after → Some found ≡ interpolation_of t (forest after)
    → rest ≡ drop (tree_count (Some found)) after → given depth found ≡ Ok part → new ≡ chain out part
    → IsUpTo given depth old all new rest
found_step given depth old all out new part t found left after rest was whole is drops gives put =
    step given depth (tree_count (Some found)) old all out new part t left after rest was whole drops
    (begins_some given depth t (forest after) found (sym is)
    ∙ ap (λ o. then_outcome o (filled_by given depth (tree_count (Some found)) (forest after))) gives)
    put

pub ends_fill : (given : Giving) (depth : ℕ) (old all out : Forest) (left : List TokenTree)
    → IsUpTo given depth old all out left → length left ≡ 0
    → then_outcome (Ok old) (filled_by given depth 0 all) ≡ Ok out
ends_fill given depth old all out [] was none = was.so_far ∙ ap Ok (joined_nil out)
ends_fill given depth old all out (t ∷ left) was none = absurd (omega (arith, none))

-- if the whole outcome is a stream, its second part is one too
pub followed_by : (old new : Forest) (o : Outcome) → then_outcome (Ok old) o ≡ Ok new
    → (part : Forest) × (o ≡ Ok part) × (new ≡ chain old part)
followed_by old new (Ok part) h = (part, refl, cc)
followed_by old new (Err fault) h = absurd (cc)

pub follows_fault : (old : Forest) (o : Outcome) (fault : TemplateError) → then_outcome (Ok old) o ≡ Err fault
    → o ≡ Err fault
follows_fault old (Ok part) fault h = absurd (cc)
follows_fault old (Err other) fault h = h

-- one step at a hole or a repetition, whose trees are added to the stream
pub found_onto : (given : Giving) (depth : ℕ) (old all out new : Forest) (t : TokenTree) (found : Interpolation)
    (left after rest : List TokenTree)
    → IsUpTo given depth old all out left → left ≡ t ∷ after → Some found ≡ interpolation_of t (forest after)
    → rest ≡ drop (tree_count (Some found)) after → then_outcome (Ok out) (given depth found) ≡ Ok new
    → IsUpTo given depth old all new rest
found_onto given depth old all out new t found left after rest was whole is drops put =
    let p = followed_by out new (given depth found) put in
    found_step given depth old all out new p.0 t found left after rest was whole is drops p.1 p.2

-- the trees that replace a hole
pub gives_name : (holes : List Hole) (turns : List ℕ) (depth : ℕ) (name : HoleName)
    → gives holes turns depth (Names (text_of name) (span_of name))
    ≡ put_in (span_of name) (filling_of (in_turns holes turns) (text_of name))
gives_name holes turns depth name = refl
