-- The text of a tree's span is that of its run.
use Rattle.std.proofs.Common.{◌≡◌, ℕ, ◌+◌, ◌-◌, ◌≤◌, List, [], ◌∷◌, ◌++◌, length, take, drop, refl, sym, ap, ap₂, ◌∙◌}
use Rattle.std.proofs.Common.{arith, length-append, subst, append-nil}
use Rattle.std.proofs.lemmas.List.Elements.{All-from_recursion}
use Rattle.lexical.specs.Piece.{Piece}
use Rattle.lexical.specs.Cover.{onto, width}
use Rattle.grammar_laws.proofs.LeafLaws.{onto_split}
use Rattle.pm_span.specs.Files.{Files, all_texts, positions, next_lo, IsFile, with_file, Extends}
use Rattle.pm_span.proofs.FileLemmas.{positions-cons, is_file_extends}
use Rattle.pm_stream.specs.InOrder.{in_order}
use Rattle.pm_stream.specs.TreeSpan.{extent_of}
use Rattle.pm_stream.specs.declared.stream.TokenTree.{TokenTree}
use Rattle.pm_stream.proofs.CoverLemmas.{onto-append, width-append}
use Rattle.pm_stream.proofs.FaultLemmas.{cover_within}
use Rattle.pm_stream.proofs.InOrderLemmas.{all_listed}
use Rattle.pm_span.specs.CharOffset.{between}
use Rattle.proc_macro2.specs.GivesBack.{StandsOn, GivesBack, SpansGiveBack, ListedGiveBack}
use Rattle.proc_macro2.proofs.RunLemmas.{each_map, each_stands}

-- ---- one file

-- the file that has a position, if the files begin at k
same_file : (k : ℕ) (us vs xs ys : List (List ℕ)) (s t : List ℕ) (position : ℕ) → us ++ (s ∷ xs) ≡ vs ++ (t ∷ ys)
    → k + positions us ≤ position → position ≤ k + positions us + length s
    → k + positions vs ≤ position → position ≤ k + positions vs + length t
    → (s ≡ t) × (positions us ≡ positions vs)
same_file k [] [] xs ys s t position e a b c d = (cc, refl)
same_file k [] (y ∷ vs) xs ys s t position e a b c d =
    let head : s ≡ y = cc in
    absurd (omega (arith, positions-cons y vs, ap length head))
same_file k (x ∷ us) [] xs ys s t position e a b c d =
    let head : x ≡ t = cc in
    absurd (omega (arith, positions-cons x us, ap length head))
same_file k (x ∷ us) (y ∷ vs) xs ys s t position e a b c d =
    let head : x ≡ y = cc in
    let tail : us ++ (s ∷ xs) ≡ vs ++ (t ∷ ys) = cc in
    let m = positions-cons x us in
    let n = positions-cons y vs in
    let more = same_file (k + (length x + 1)) us vs xs ys s t position tail
    (omega (arith, m)) (omega (arith, m)) (omega (arith, n, ap length head)) (omega (arith, n, ap length head)) in
    (more.0, omega (arith, m, n, ap length head, more.1))

-- at most one file has a position
one_file : (map : Files) (s t : List ℕ) (lo begin position : ℕ) → IsFile map s lo → IsFile map t begin
    → lo ≤ position → position ≤ lo + length s → begin ≤ position → position ≤ begin + length t
    → (s ≡ t) × (lo ≡ begin)
one_file map s t lo begin position f g a b c d =
    let same = same_file 0 f.before g.before f.after g.after s t position (sym f.whole ∙ g.whole)
    (omega (arith, f.begins)) (omega (arith, f.begins)) (omega (arith, g.begins)) (omega (arith, g.begins)) in
    (same.0, f.begins ∙ (same.1 ∙ sym g.begins))

-- ---- the text of a run

take_front : (p r : List ℕ) → take (length p) (p ++ r) ≡ p
take_front [] r = refl
take_front (c ∷ p) r = ap (λ q. c ∷ q) (take_front p r)

drop_front : (p r : List ℕ) → drop (length p) (p ++ r) ≡ r
drop_front [] r = refl
drop_front (c ∷ p) r = drop_front p r

width_alone : (us : List Piece) → length (onto us []) ≡ width us
width_alone [] = refl
width_alone (x ∷ us) = length-append x.1 (onto us []) ∙ ap (λ n. length x.1 + n) (width_alone us)

run_text : (source : List ℕ) (before run after : List Piece) → source ≡ onto (before ++ (run ++ after)) []
    → between source (width before) (width before + width run) ≡ onto run []
run_text source before run after e =
    let front = onto before [] in
    let back = onto after [] in
    let cut : source ≡ front ++ (onto run [] ++ back) =
    e ∙ (onto-append before (run ++ after) [] ∙ (onto_split before (onto (run ++ after) [])
    ∙ ap (λ r. front ++ r) (onto-append run after [] ∙ onto_split run back))) in
    let size : width before + width run - width before ≡ length (onto run []) = omega (arith, width_alone run) in
    let rest = ap₂ (λ n r. drop n r) (sym (width_alone before)) cut ∙ drop_front front (onto run [] ++ back) in
    ap₂ (λ n r. take n r) size rest
    ∙ take_front (onto run []) back

-- ---- the text of a span

gives_back : (map : Files) (base : ℕ) (source : List ℕ) (pieces : List Piece) (tree : TokenTree)
    → IsFile map source base → source ≡ onto pieces [] → width pieces ≤ length source → StandsOn base pieces tree
    → GivesBack map base pieces tree
gives_back map base source pieces tree file whole within h =
    let lo = (extent_of tree).lo in
    let hi = (extent_of tree).hi in
    let size : width pieces ≡ width h.before + (width h.run + width h.after) =
    ap width h.whole
    ∙ (width-append h.before (h.run ++ h.after) ∙ ap (λ n. width h.before + n) (width-append h.run h.after)) in
    let from : base ≤ lo = omega (arith, h.begins) in
    let to : hi ≤ base + length source = omega (arith, h.begins, h.ends, size) in
    let begin : lo - base ≡ width h.before = omega (arith, h.begins) in
    let end : hi - base ≡ width h.before + width h.run = omega (arith, h.begins, h.ends) in
    let is : between source (lo - base) (hi - base) ≡ onto h.run [] =
    ap₂ (λ j k. between source j k) begin end
    ∙ run_text source h.before h.run h.after (whole ∙ ap (λ us. onto us []) h.whole) in
    record {
      on = h;
      text = λ text. (
        λ found.
            let same = one_file map source found.held.text base found.held.lo lo file found.held.file
            from (omega (arith, h.ends)) found.held.from (omega (arith, h.ends, found.held.to)) in
            found.value ∙ (ap₂ (λ t n. between t (lo - n) (hi - n)) (sym same.0) (sym same.1) ∙ is),
        λ e. record {
          held = record { text = source; lo = base; file = file; from = from; to = to };
          value = e ∙ sym is;
        },
      );
    }

-- the text is a file of each map that extends the one after the parse
read_file : (old map : Files) (source : List ℕ) → Extends (with_file old source) map → IsFile map source (next_lo old)
read_file old map source more =
    is_file_extends (with_file old source) map source (next_lo old) more
    (record { before = all_texts old; after = []; whole = refl; begins = refl })

pub spans_give_back : SpansGiveBack
spans_give_back old map source stream parsed more =
    let base = next_lo old in
    let file = read_file old map source more in
    let within = cover_within parsed.pieces source [] parsed.covers in
    All-from_recursion (GivesBack map base parsed.pieces) (in_order stream)
    (each_map (StandsOn base parsed.pieces) (GivesBack map base parsed.pieces) (in_order stream)
    (λ tree. gives_back map base source parsed.pieces tree file parsed.covers.whole within)
    (each_stands base source stream parsed))

pub listed_give_back : ListedGiveBack
listed_give_back old map source stream parsed kept trees e tree index less is =
    let P = GivesBack map (next_lo old) parsed.pieces in
    let same : Extends (with_file old source) map = ([], ap (λ (m : Files). m.texts) kept ∙ sym (append-nil _)) in
    subst P (sym is) (all_listed P trees stream e (spans_give_back old map source stream parsed same) index tree less).0
