-- Each tree of a parsed stream has a run of pieces.
use Rattle.std.proofs.Common.{◌≡◌, ◌⊎◌, ℕ, ◌+◌, ◌<◌, Bool, true, false, List, [], ◌∷◌, ◌++◌, length, refl, sym, ap, ap₂}
use Rattle.std.proofs.Common.{◌∙◌, subst, inl, inr, arith, append_assoc, append-nil, add_assoc, add-zero, suc, zero}
use Rattle.std.proofs.Common.{Contains, codes, length-append}
use Rattle.std.specs.List.{AllByRecursion as Each}
use Rattle.std.proofs.lemmas.List.Elements.{recursion_from_All, All-contains_itself}
use Rattle.lexical.specs.Token.{Token, Name, Mark, Literal, token_text}
use Rattle.lexical.specs.Piece.{Kind, Piece, FrontMark, Gap, Doc, Open, Close, Leaf, IsPiece}
use Rattle.lexical.specs.Cover.{onto, width, StandBefore}
use Rattle.lexical.proofs.PieceFacts.{open_is, close_is}
use Rattle.lexical.proofs.ClassLemmas.{any_of}
use Rattle.pm_span.specs.Extent.{Extent}
use Rattle.pm_token.specs.Leaf.{is_joint}
use Rattle.pm_token.specs.declared.delimiters.Delimiter.{Delimiter}
use Rattle.pm_stream.specs.Delimited.{opening, closing, delimiter_of}
use Rattle.pm_stream.specs.Events.{Event, One, Opens, Closes, doc_onto, events_onto, expansion}
use Rattle.pm_stream.specs.Forest.{Forest, nil, leaf, group, flat_onto, flattening, chain}
use Rattle.pm_stream.specs.InOrder.{spacing_of, token_tree, in_order}
use Rattle.pm_stream.specs.Parsing.{ParsesTo}
use Rattle.pm_stream.specs.TreeSpan.{extent_of}
use Rattle.pm_stream.specs.declared.stream.TokenTree.{TokenTree}
use Rattle.pm_stream.specs.declared.stream.TokenTree.TheVariants.{Group}
use Rattle.pm_stream.proofs.CoverLemmas.{expansion-append, width-append}
use Rattle.pm_stream.proofs.DocLemmas.{doc_trees, doc_trees-events}
use Rattle.pm_stream.proofs.InOrderLemmas.{in_order-joined, each_onto}
use Rattle.pm_stream.proofs.TreeLemmas.{flat_onto-append, flat_onto-joined}
use Rattle.proc_macro2.specs.GivesBack.{piece_of, IsRunOf, IsRunOfDoc, StandsOn}

-- ---- the events of a stream, cut at its end

-- no event is left, or a closer is next
abbrev Ends : List Event → Type 0
Ends [] = Unit {0}
Ends (One token lo hi ∷ es) = ⊥
Ends (Opens d lo ∷ es) = ⊥
Ends (Closes d hi ∷ es) = Unit {0}

joined-nil : (f : Forest) → chain f nil ≡ f
joined-nil nil = refl
joined-nil (leaf t lo hi f) = ap (leaf t lo hi) (joined-nil f)
joined-nil (group d lo hi f g) = ap (group d lo hi f) (joined-nil g)

-- if a closer is next, no tree is left before it
none_before : (k : Forest) (d e : Delimiter) (m n : ℕ) (xs ys : List Event)
    → flat_onto k (Closes d m ∷ xs) ≡ Closes e n ∷ ys → (k ≡ nil) × (d ≡ e) × (m ≡ n) × (xs ≡ ys)
none_before nil d e m n xs ys h = (refl, cc, cc, cc)
none_before (leaf t lo hi k) d e m n xs ys h = absurd (cc)
none_before (group c lo hi k l) d e m n xs ys h = absurd (cc)

-- if the events of a stream begin with those of another, the stream begins with that one
flat_cut : (g f : Forest) (es ks : List Event) → Ends es → flat_onto f es ≡ flat_onto g ks
    → (k : Forest) × (f ≡ chain g k) × (flat_onto k es ≡ ks)
flat_cut nil f es ks p e = (f, refl, e)
flat_cut (leaf t lo hi g) nil es ks p e = absurd (subst Ends e p)
flat_cut (leaf t lo hi g) (group d l h f m) es ks p e = absurd (cc)
flat_cut (leaf t lo hi g) (leaf u l h f) es ks p e =
    let rest : flat_onto f es ≡ flat_onto g ks = cc in
    let more = flat_cut g f es ks p rest in
    let a : u ≡ t = cc in
    let b : l ≡ lo = cc in
    let c : h ≡ hi = cc in
    let s = more.1 in
    (more.0, cc, more.2)
flat_cut (group d lo hi g m) nil es ks p e = absurd (subst Ends e p)
flat_cut (group d lo hi g m) (leaf u l h f) es ks p e = absurd (cc)
flat_cut (group d lo hi g m) (group c l h f n) es ks p e =
    let inside : flat_onto f (Closes c h ∷ flat_onto n es) ≡ flat_onto g (Closes d hi ∷ flat_onto m ks) = cc in
    let deep = flat_cut g f (Closes c h ∷ flat_onto n es) (Closes d hi ∷ flat_onto m ks) tt inside in
    let none = none_before deep.0 c d h hi (flat_onto n es) (flat_onto m ks) deep.2 in
    let more = flat_cut m n es ks p none.3 in
    let a : c ≡ d = cc in
    let b : l ≡ lo = cc in
    let same : f ≡ g = deep.1 ∙ (ap (chain g) none.0 ∙ joined-nil g) in
    let i = none.2 in
    let s = more.1 in
    (more.0, cc, more.2)

-- ---- runs among more pieces

pub each_map : (P Q : TokenTree → Type 0) (xs : List TokenTree) → ((x : TokenTree) → P x → Q x) → Each P xs → Each Q xs
each_map P Q [] f h = tt
each_map P Q (x ∷ xs) f h = (f x h.0, each_map P Q xs f h.1)

-- one more piece before the others
stands_later : (at : ℕ) (x : Piece) (ps : List Piece) (tree : TokenTree) → StandsOn (at + length x.1) ps tree
    → StandsOn at (x ∷ ps) tree
stands_later at x ps tree h = record {
  before = x ∷ h.before;
  run = h.run;
  after = h.after;
  whole = ap (λ us. x ∷ us) h.whole;
  begins = omega (arith, h.begins);
  ends = h.ends;
  is_run = h.is_run;
}

-- more pieces after the others
stands_before : (at : ℕ) (ps qs : List Piece) (tree : TokenTree) → StandsOn at ps tree → StandsOn at (ps ++ qs) tree
stands_before at ps qs tree h = record {
  before = h.before;
  run = h.run;
  after = h.after ++ qs;
  whole = ap (λ us. us ++ qs) h.whole
      ∙ (append_assoc h.before (h.run ++ h.after) qs ∙ ap (λ us. h.before ++ us) (append_assoc h.run h.after qs));
  begins = h.begins;
  ends = h.ends;
  is_run = h.is_run;
}

-- the first piece alone
stands_alone : (at : ℕ) (x : Piece) (ps : List Piece) (tree : TokenTree)
    → extent_of tree ≡ record { lo = at; hi = at + length x.1 }
    → IsRunOf (x ∷ []) tree ⊎ IsRunOfDoc (x ∷ []) tree → StandsOn at (x ∷ ps) tree
stands_alone at x ps tree e is_run = record {
  before = [];
  run = x ∷ [];
  after = ps;
  whole = refl;
  begins = omega (arith, ap (λ (s : Extent). s.lo) e);
  ends = omega (arith, ap (λ (s : Extent). s.lo) e, ap (λ (s : Extent). s.hi) e);
  is_run = is_run;
}

-- ---- a token, and the trees of a doc comment

token_extent : (token : Token) (lo hi : ℕ) → extent_of (token_tree token lo hi) ≡ record { lo = lo; hi = hi }
token_extent (Name raw name) lo hi = refl
token_extent (Mark c joint) lo hi = refl
token_extent (Literal text) lo hi = refl

joint_back : (joint : Bool) → is_joint (spacing_of joint) ≡ joint
joint_back true = refl
joint_back false = refl

token_run : (token : Token) (lo hi : ℕ) → IsRunOf (piece_of token ∷ []) (token_tree token lo hi)
token_run (Name raw name) lo hi = refl
token_run (Mark c joint) lo hi = ap (λ j. piece_of (Mark c j) ∷ []) (sym (joint_back joint))
token_run (Literal text) lo hi = refl

token_stands : (at : ℕ) (token : Token) (p : List ℕ) (ps : List Piece) → p ≡ token_text token
    → StandsOn at ((Leaf token, p) ∷ ps) (token_tree token at (at + length p))
token_stands at token p ps e =
    let tree = token_tree token at (at + length p) in
    stands_alone at (Leaf token, p) ps tree (token_extent token at (at + length p))
    (inl (subst (λ q. IsRunOf ((Leaf token, q) ∷ []) tree) (sym e) (token_run token at (at + length p))))

doc_extents : (lo hi : ℕ) (inner : Bool) (text : List ℕ)
    → Each (λ tree. extent_of tree ≡ record { lo = lo; hi = hi }) (in_order (doc_trees lo hi inner text))
doc_extents lo hi true text = (refl, (refl, (refl, (refl, (refl, (refl, tt))))))
doc_extents lo hi false text = (refl, (refl, (refl, (refl, (refl, tt)))))

each_both : (P Q R : TokenTree → Type 0) (xs : List TokenTree) → ((x : TokenTree) → P x → Q x → R x)
    → Each P xs → Each Q xs → Each R xs
each_both P Q R [] f h k = tt
each_both P Q R (x ∷ xs) f h k = (f x h.0 k.0, each_both P Q R xs f h.1 k.1)

doc_stands : (at : ℕ) (inner : Bool) (text p : List ℕ) (ps : List Piece)
    → Each (StandsOn at ((Doc inner text, p) ∷ ps)) (in_order (doc_trees at (at + length p) inner text))
doc_stands at inner text p ps =
    let doc = doc_trees at (at + length p) inner text in
    let own = recursion_from_All (Contains (in_order doc)) (in_order doc) (All-contains_itself (in_order doc)) in
    each_both (λ tree. extent_of tree ≡ record { lo = at; hi = at + length p }) (Contains (in_order doc))
    (StandsOn at ((Doc inner text, p) ∷ ps)) (in_order doc)
    (λ tree place among. stands_alone at (Doc inner text, p) ps tree place
    (inr (record {
      inner = inner;
      text = text;
      comment = p;
      trees = doc;
      piece = refl;
      gives = doc_trees-events at (at + length p) inner text []
          ∙ ap (λ (s : Extent). doc_onto s.lo s.hi inner text []) (sym place);
      among = among;
    })))
    (doc_extents at (at + length p) inner text) own

-- ---- how the pieces are written

-- whether an opener or a closer is written as its delimiter, and a token as its text
abbrev IsSpelt : Piece → Type 0
IsSpelt (FrontMark, p) = Unit {0}
IsSpelt (Gap, p) = Unit {0}
IsSpelt (Doc inner text, p) = Unit {0}
IsSpelt (Open c, p) = p ≡ opening (delimiter_of c)
IsSpelt (Close c, p) = p ≡ closing (delimiter_of c)
IsSpelt (Leaf token, p) = p ≡ token_text token

piece_spelt : (first : Bool) (k : Kind) (p r : List ℕ) → IsPiece first k p r → IsSpelt (k, p)
piece_spelt first FrontMark p r h = tt
piece_spelt first Gap p r h = tt
piece_spelt first (Doc inner text) p r h = tt
piece_spelt first (Open c) p r h =
    let is = open_is first c p r h in
    is.0 ∙ any_of (λ d. d ∷ [] ≡ opening (delimiter_of d)) (codes "([{") c (refl, (refl, (refl, tt))) is.1
piece_spelt first (Close c) p r h =
    let is = close_is first c p r h in
    is.0 ∙ any_of (λ d. d ∷ [] ≡ closing (delimiter_of d)) (codes ")]}") c (refl, (refl, (refl, tt))) is.1
piece_spelt first (Leaf token) p r h = h.0

pub all_spelt : (first : Bool) (ps : List Piece) (r : List ℕ) → StandBefore first ps r → Each IsSpelt ps
all_spelt first [] r h = tt
all_spelt first (x ∷ ps) r h = (piece_spelt first x.0 x.1 (onto ps r) h.0, all_spelt false ps r h.1)

spelt_rest : (us vs : List Piece) → Each IsSpelt (us ++ vs) → Each IsSpelt vs
spelt_rest [] vs h = h
spelt_rest (u ∷ us) vs h = spelt_rest us vs h.1

-- ---- the pieces of a stream, up to a closer or the end

abbrev AtCloser : List Piece → Type 0
AtCloser [] = Unit {0}
AtCloser ((FrontMark, p) ∷ ps) = ⊥
AtCloser ((Gap, p) ∷ ps) = ⊥
AtCloser ((Doc inner text, p) ∷ ps) = ⊥
AtCloser ((Open c, p) ∷ ps) = ⊥
AtCloser ((Close c, p) ∷ ps) = Unit {0}
AtCloser ((Leaf token, p) ∷ ps) = ⊥

-- whether a prefix of the pieces gives the stream, whose trees have runs in it, and the rest gives the other events
record Cut (at : ℕ) (ps : List Piece) (f : Forest) (es : List Event) : Type 0 where
  front : List Piece
  rest : List Piece
  split : ps ≡ front ++ rest
  expands : flattening f ≡ expansion at front
  each : Each (StandsOn at front) (in_order f)
  left : es ≡ expansion (at + width front) rest
  stops : AtCloser rest

-- one more piece at the start
cut_more : (at : ℕ) (x : Piece) (ps : List Piece) (f g : Forest) (es : List Event) (h : Cut (at + length x.1) ps g es)
    → flattening f ≡ events_onto at x.0 x.1 (flattening g) → Each (StandsOn at (x ∷ h.front)) (in_order f)
    → Cut at (x ∷ ps) f es
cut_more at x ps f g es h e each = record {
  front = x ∷ h.front;
  rest = h.rest;
  split = ap (λ us. x ∷ us) h.split;
  expands = e ∙ ap (events_onto at x.0 x.1) h.expands;
  each = each;
  left = h.left ∙ ap (λ n. expansion n h.rest) (add_assoc at (length x.1) (width h.front));
  stops = h.stops;
}

later : (at : ℕ) (x : Piece) (ps : List Piece) (f : Forest) → Each (StandsOn (at + length x.1) ps) (in_order f)
    → Each (StandsOn at (x ∷ ps)) (in_order f)
later at x ps f h =
    each_map (StandsOn (at + length x.1) ps) (StandsOn at (x ∷ ps)) (in_order f) (λ tree. stands_later at x ps tree) h

cut_token : (at : ℕ) (token : Token) (p : List ℕ) (ps : List Piece) (f : Forest) (es : List Event)
    → p ≡ token_text token → Cut (at + length p) ps f es
    → Cut at ((Leaf token, p) ∷ ps) (leaf token at (at + length p) f) es
cut_token at token p ps f es e h =
    cut_more at (Leaf token, p) ps (leaf token at (at + length p) f) f es h refl
    (token_stands at token p h.front e, later at (Leaf token, p) h.front f h.each)

cut_doc : (at : ℕ) (inner : Bool) (text p : List ℕ) (ps : List Piece) (f : Forest) (es : List Event)
    → Cut (at + length p) ps f es
    → Cut at ((Doc inner text, p) ∷ ps) (chain (doc_trees at (at + length p) inner text) f) es
cut_doc at inner text p ps f es h =
    let doc = doc_trees at (at + length p) inner text in
    let x : Piece = (Doc inner text, p) in
    cut_more at x ps (chain doc f) f es h
    (flat_onto-joined doc f [] ∙ doc_trees-events at (at + length p) inner text (flattening f))
    (subst (Each (StandsOn at (x ∷ h.front))) (sym (in_order-joined doc f []))
    (each_onto (StandsOn at (x ∷ h.front)) doc (in_order f) (doc_stands at inner text p h.front)
    (later at x h.front f h.each)))

-- the pieces begin where those before them end
stands_after : (at : ℕ) (us ps : List Piece) (tree : TokenTree) → StandsOn (at + width us) ps tree
    → StandsOn at (us ++ ps) tree
stands_after at [] ps tree h = subst (λ n. StandsOn n ps tree) (add-zero at) h
stands_after at (u ∷ us) ps tree h =
    let place = sym (add_assoc at (length u.1) (width us)) in
    stands_later at u (us ++ ps) tree
    (stands_after (at + length u.1) us ps tree (subst (λ n. StandsOn n ps tree) place h))

-- the pieces of a group
abbrev group_pieces : Piece → List Piece → Piece → List Piece → List Piece
group_pieces opener middle closer after = opener ∷ (middle ++ (closer ∷ after))

group_expands : (at c e : ℕ) (p q : List ℕ) (us vs : List Piece) (f g : Forest) → delimiter_of e ≡ delimiter_of c
    → flattening f ≡ expansion (at + length p) us
    → flattening g ≡ expansion (at + length p + width us + length q) vs
    → flattening (group (delimiter_of c) at (at + length p + width us + length q) f g)
    ≡ expansion at (group_pieces (Open c, p) us (Close e, q) vs)
group_expands at c e p q us vs f g same inside outside =
    let begin = at + length p in
    let hi = begin + width us + length q in
    let closed : Closes (delimiter_of c) hi ∷ flattening g ≡ expansion (begin + width us) ((Close e, q) ∷ vs) =
    ap₂ (λ d es. Closes d hi ∷ es) (sym same) outside in
    let all : flat_onto f (Closes (delimiter_of c) hi ∷ flattening g) ≡ expansion begin (us ++ ((Close e, q) ∷ vs)) =
    sym (flat_onto-append f [] (Closes (delimiter_of c) hi ∷ flattening g))
    ∙ (ap₂ (λ xs ys. xs ++ ys) inside closed ∙ sym (expansion-append begin us ((Close e, q) ∷ vs))) in
    ap (λ es. Opens (delimiter_of c) at ∷ es) all

group_stands : (at c e : ℕ) (p q : List ℕ) (us vs : List Piece) (f : Forest) → delimiter_of e ≡ delimiter_of c
    → p ≡ opening (delimiter_of c) → q ≡ closing (delimiter_of e) → flattening f ≡ expansion (at + length p) us
    → StandsOn at (group_pieces (Open c, p) us (Close e, q) vs)
    (Group (record {
      delimiter = delimiter_of c;
      stream = f;
      span = record { lo = at; hi = at + length p + width us + length q };
    }))
group_stands at c e p q us vs f same opens closes inside = record {
  before = [];
  run = group_pieces (Open c, p) us (Close e, q) [];
  after = vs;
  whole = ap (λ xs. (Open c, p) ∷ xs) (sym (append_assoc us ((Close e, q) ∷ []) vs));
  begins = omega arith;
  ends = omega (arith, width-append us ((Close e, q) ∷ []));
  is_run = inl (record {
    opener = c;
    closer = e;
    middle = us;
    pieces = ap₂ (λ x y. group_pieces (Open c, x) us (Close e, y) []) opens (closes ∙ ap closing same);
    gives = inside ∙ ap (λ x. expansion (at + length x) us) opens;
  });
}

cut_group : (at c e : ℕ) (p q : List ℕ) (ps more : List Piece) (f g : Forest) (xs es : List Event)
    → delimiter_of e ≡ delimiter_of c → p ≡ opening (delimiter_of c) → q ≡ closing (delimiter_of e)
    → (inner : Cut (at + length p) ps f xs) → inner.rest ≡ (Close e, q) ∷ more
    → Cut (at + length p + width inner.front + length q) more g es
    → Cut at ((Open c, p) ∷ ps) (group (delimiter_of c) at (at + length p + width inner.front + length q) f g) es
cut_group at c e p q ps more f g xs es same opens closes inner follows outer =
    let opener : Piece = (Open c, p) in
    let closer : Piece = (Close e, q) in
    let middle = inner.front in
    let hi = at + length p + width middle + length q in
    let all = group_pieces opener middle closer outer.front in
    let inside : Each (StandsOn at all) (in_order f) =
    each_map (StandsOn (at + length p) middle) (StandsOn at all) (in_order f)
    (λ tree h. stands_later at opener (middle ++ (closer ∷ outer.front)) tree
    (stands_before (at + length p) middle (closer ∷ outer.front) tree h)) inner.each in
    let outside : Each (StandsOn at all) (in_order g) =
    each_map (StandsOn hi outer.front) (StandsOn at all) (in_order g)
    (λ tree h. stands_later at opener (middle ++ (closer ∷ outer.front)) tree
    (stands_after (at + length p) middle (closer ∷ outer.front) tree
    (stands_later (at + length p + width middle) closer outer.front tree h))) outer.each in
    record {
      front = all;
      rest = outer.rest;
      split = ap (λ us. opener ∷ us)
          (inner.split ∙ (ap (λ us. middle ++ us) (follows ∙ ap (λ us. closer ∷ us) outer.split)
          ∙ sym (append_assoc middle (closer ∷ outer.front) outer.rest)));
      expands = group_expands at c e p q middle outer.front f g same inner.expands outer.expands;
      each = (
        group_stands at c e p q middle outer.front f same opens closes inner.expands,
        each_onto (StandsOn at all) f (in_order g) inside outside,
      );
      left = outer.left ∙ ap (λ n. expansion n outer.rest) (omega (arith, width-append middle (closer ∷ outer.front)));
      stops = outer.stops;
    }

-- ---- all pieces

-- if a closer is the next event, it is the next piece
closer_next : (rest : List Piece) (at : ℕ) (d : Delimiter) (hi : ℕ) (es : List Event) → AtCloser rest
    → Closes d hi ∷ es ≡ expansion at rest
    → (e : ℕ) × (q : List ℕ) × (more : List Piece) × (rest ≡ (Close e, q) ∷ more) × (d ≡ delimiter_of e)
    × (hi ≡ at + length q) × (es ≡ expansion (at + length q) more)
closer_next [] at d hi es s h = absurd (cc)
closer_next ((FrontMark, p) ∷ ps) at d hi es s h = absurd s
closer_next ((Gap, p) ∷ ps) at d hi es s h = absurd s
closer_next ((Doc inner text, p) ∷ ps) at d hi es s h = absurd s
closer_next ((Open c, p) ∷ ps) at d hi es s h = absurd s
closer_next ((Close c, p) ∷ ps) at d hi es s h = (c, p, ps, refl, cc, cc, cc)
closer_next ((Leaf token, p) ∷ ps) at d hi es s h = absurd s

cut : (n at : ℕ) (ps : List Piece) (f : Forest) (es : List Event) → length ps < n → Each IsSpelt ps → Ends es
    → flat_onto f es ≡ expansion at ps → Cut at ps f es
cut zero at ps f es l s e h = absurd (omega arith)
cut (suc n) at [] nil es l s e h =
    record { front = []; rest = []; split = refl; expands = refl; each = tt; left = h; stops = tt }
cut (suc n) at [] (leaf t lo hi f) es l s e h = absurd (cc)
cut (suc n) at [] (group d lo hi f g) es l s e h = absurd (cc)
cut (suc n) at ((FrontMark, p) ∷ ps) f es l s e h =
    let more = cut n (at + length p) ps f es (omega arith) s.1 e h in
    cut_more at (FrontMark, p) ps f f es more refl (later at (FrontMark, p) more.front f more.each)
cut (suc n) at ((Gap, p) ∷ ps) f es l s e h =
    let more = cut n (at + length p) ps f es (omega arith) s.1 e h in
    cut_more at (Gap, p) ps f f es more refl (later at (Gap, p) more.front f more.each)
cut (suc n) at ((Doc inner text, p) ∷ ps) f es l s e h =
    let doc = doc_trees at (at + length p) inner text in
    let after = flat_cut doc f es (expansion (at + length p) ps) e
    (h ∙ sym (doc_trees-events at (at + length p) inner text (expansion (at + length p) ps))) in
    subst (λ g. Cut at ((Doc inner text, p) ∷ ps) g es) (sym after.1)
    (cut_doc at inner text p ps after.0 es (cut n (at + length p) ps after.0 es (omega arith) s.1 e after.2))
cut (suc n) at ((Open c, p) ∷ ps) nil es l s e h = absurd (subst Ends h e)
cut (suc n) at ((Open c, p) ∷ ps) (leaf t lo hi f) es l s e h = absurd (cc)
cut (suc n) at ((Open c, p) ∷ ps) (group d lo hi f g) es l s e h =
    let inside : flat_onto f (Closes d hi ∷ flat_onto g es) ≡ expansion (at + length p) ps = cc in
    let inner = cut n (at + length p) ps f (Closes d hi ∷ flat_onto g es) (omega arith) s.1 tt inside in
    let begin = at + length p + width inner.front in
    let next = closer_next inner.rest begin d hi (flat_onto g es) inner.stops inner.left in
    let split : ps ≡ inner.front ++ ((Close next.0, next.1) ∷ next.2) =
    inner.split ∙ ap (λ us. inner.front ++ us) next.3 in
    let spelt = spelt_rest inner.front ((Close next.0, next.1) ∷ next.2) (subst (Each IsSpelt) split s.1) in
    let shorter : length next.2 < n =
    omega (arith, ap length split, length-append inner.front ((Close next.0, next.1) ∷ next.2)) in
    let outer = cut n (begin + length next.1) next.2 g es shorter spelt.1 e next.6 in
    let kind : d ≡ delimiter_of c = cc in
    let first : lo ≡ at = cc in
    let made = cut_group at c next.0 p next.1 ps next.2 f g (Closes d hi ∷ flat_onto g es) es (sym next.4 ∙ kind)
    s.0 spelt.0 inner next.3 outer in
    let same : group d lo hi f g ≡ group (delimiter_of c) at (begin + length next.1) f g =
    ap₂ (λ x y. group x y hi f g) kind first ∙ ap (λ z. group (delimiter_of c) at z f g) next.5 in
    subst (λ k. Cut at ((Open c, p) ∷ ps) k es) (sym same) made
cut (suc n) at ((Close c, p) ∷ ps) nil es l s e h = record {
  front = [];
  rest = (Close c, p) ∷ ps;
  split = refl;
  expands = refl;
  each = tt;
  left = h ∙ ap (λ n. expansion n ((Close c, p) ∷ ps)) (sym (add-zero at));
  stops = tt;
}
cut (suc n) at ((Close c, p) ∷ ps) (leaf t lo hi f) es l s e h = absurd (cc)
cut (suc n) at ((Close c, p) ∷ ps) (group d lo hi f g) es l s e h = absurd (cc)
cut (suc n) at ((Leaf token, p) ∷ ps) nil es l s e h = absurd (subst Ends h e)
cut (suc n) at ((Leaf token, p) ∷ ps) (group d lo hi f g) es l s e h = absurd (cc)
cut (suc n) at ((Leaf token, p) ∷ ps) (leaf t lo hi f) es l s e h =
    let rest : flat_onto f es ≡ expansion (at + length p) ps = cc in
    let made = cut_token at token p ps f es s.0 (cut n (at + length p) ps f es (omega arith) s.1 e rest) in
    let kind : t ≡ token = cc in
    let begin : lo ≡ at = cc in
    let end : hi ≡ at + length p = cc in
    let same : leaf t lo hi f ≡ leaf token at (at + length p) f = cc in
    subst (λ k. Cut at ((Leaf token, p) ∷ ps) k es) (sym same) made

none_left : (at : ℕ) (rest : List Piece) → AtCloser rest → [] ≡ expansion at rest → rest ≡ []
none_left at [] s h = refl
none_left at ((FrontMark, p) ∷ ps) s h = absurd s
none_left at ((Gap, p) ∷ ps) s h = absurd s
none_left at ((Doc inner text, p) ∷ ps) s h = absurd s
none_left at ((Open c, p) ∷ ps) s h = absurd s
none_left at ((Close c, p) ∷ ps) s h = absurd (cc)
none_left at ((Leaf token, p) ∷ ps) s h = absurd s

-- each tree of a parsed stream has a run of the cover
pub each_stands : (base : ℕ) (source : List ℕ) (stream : Forest) (parsed : ParsesTo base source stream)
    → Each (StandsOn base parsed.pieces) (in_order stream)
each_stands base source stream parsed =
    let made = cut (suc (length parsed.pieces)) base parsed.pieces stream [] (omega arith)
    (all_spelt true parsed.pieces [] parsed.covers.stand) tt parsed.expands in
    let none = none_left (base + width made.front) made.rest made.stops made.left in
    let all : made.front ≡ parsed.pieces =
    sym (made.split ∙ (ap (λ us. made.front ++ us) none ∙ append-nil made.front)) in
    subst (λ us. Each (StandsOn base us) (in_order stream)) all made.each
