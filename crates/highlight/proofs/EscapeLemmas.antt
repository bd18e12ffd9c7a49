-- Texts that are escaped part by part.
use Rattle.std.proofs.Common.{◌≡◌, ℕ, suc, ◌+◌, ◌<◌, true, false, ◌==◌, List, [], ◌∷◌, ◌++◌, codes, length, get_or}
use Rattle.std.proofs.Common.{refl, sym, ap, subst, ◌∙◌, ◌≤◌, arith, append_assoc, append-nil, drop, take}
use Rattle.std.specs.Prelude.{encode_utf8, if◌then◌else◌}
use Rattle.std.proofs.lemmas.Bool.{ne_eqb}
use Rattle.std.proofs.lemmas.List.{get_or-take, length-take-le, take-append-drop}
use Rattle.std.proofs.lemmas.Str.{inside_one}
use Rattle.highlight.specs.Page.{IsBare, anchor, escape, escape_text, in_span, line_after}

pub line_after-append : (line : ℕ) (s t : List ℕ) → line_after line (s ++ t) ≡ line_after (line_after line s) t
line_after-append line [] t = refl
line_after-append line (c ∷ s) t =
    elim (c == 10) as (λ b. (if b then line_after (line + 1) (s ++ t) else line_after line (s ++ t))
    ≡ line_after (if b then line_after (line + 1) s else line_after line s) t)
    [ true ↦ line_after-append (line + 1) s t | false ↦ line_after-append line s t ]

pub escaped-append : (line : ℕ) (s t : List ℕ)
    → escape_text line (s ++ t) ≡ escape_text line s ++ escape_text (line_after line s) t
escaped-append line [] t = refl
escaped-append line (c ∷ s) t =
    elim (c == 10) as (λ b. (if b then c ∷ (anchor (line + 1) ++ escape_text (line + 1) (s ++ t))
    else escape c ++ escape_text line (s ++ t))
    ≡ (if b then c ∷ (anchor (line + 1) ++ escape_text (line + 1) s) else escape c ++ escape_text line s)
    ++ escape_text (if b then line_after (line + 1) s else line_after line s) t) [
      | true ↦ ap (λ l. c ∷ l) (ap (λ l. anchor (line + 1) ++ l) (escaped-append (line + 1) s t)
          ∙ sym (append_assoc (anchor (line + 1)) (escape_text (line + 1) s) _))
      | false ↦ ap (λ l. escape c ++ l) (escaped-append line s t) ∙ sym (append_assoc (escape c) (escape_text line s) _)
    ]

-- none of the bytes is escaped, and none is a line feed
pub record AreBare (text : List ℕ) : Type 0 where
  pub none : (k : ℕ) → k < length text → IsBare (get_or text k 0)

bare_escaped : (line : ℕ) (text : List ℕ) → AreBare text → escape_text line text ≡ text
bare_escaped line [] bare = refl
bare_escaped line (c ∷ text) bare =
    let here = bare.none 0 (omega arith) in
    let more = bare_escaped line text (record { none = λ k below. bare.none (suc k) (omega arith) }) in
    rw (here.0, here.1) (ap (λ l. c ∷ l) more)

bare_line : (line : ℕ) (text : List ℕ) → AreBare text → line_after line text ≡ line
bare_line line [] bare = refl
bare_line line (c ∷ text) bare =
    let here = bare.none 0 (omega arith) in
    rw here.0 (bare_line line text (record { none = λ k below. bare.none (suc k) (omega arith) }))

-- a character that is neither LF nor escaped has bytes that are bare
character_bare : (c : ℕ) → (c ≡ 10 → ⊥) → (c ≡ 60 → ⊥) → (c ≡ 62 → ⊥) → (c ≡ 38 → ⊥) → (c ≡ 34 → ⊥)
    → AreBare (encode_utf8 c)
character_bare c feed less more ampersand quote = record {
  none = λ k below.
      let is = inside_one c [] (encode_utf8 c) k (sym (append-nil _)) below in
      let differs : (d : ℕ) → d < 128 → (c ≡ d → ⊥) → (get_or (encode_utf8 c) k 0 == d) ≡ false =
      λ d small differs. ne_eqb _ d (λ e. differs (is (omega (arith, e)) ∙ e)) in (
        differs 10 (omega arith) feed,
        rw (
          differs 60 (omega arith) less,
          differs 62 (omega arith) more,
          differs 38 (omega arith) ampersand,
          differs 34 (omega arith) quote,
        ),
      );
}

pub escaped_feed : (line c : ℕ) → c ≡ 10 → escape_text line (encode_utf8 c) ≡ 10 ∷ anchor (line + 1)
unfolding lib.Utf8.encode
escaped_feed line c is = rw is (ap (λ l. 10 ∷ l) (append-nil (anchor (line + 1))))

pub after_feed : (line c : ℕ) → c ≡ 10 → line_after line (encode_utf8 c) ≡ line + 1
unfolding lib.Utf8.encode
after_feed line c is = rw is refl

pub escaped_less : (line c : ℕ) → c ≡ 60 → escape_text line (encode_utf8 c) ≡ codes "&lt;"
unfolding lib.Utf8.encode
escaped_less line c is = rw is refl

pub after_less : (line c : ℕ) → c ≡ 60 → line_after line (encode_utf8 c) ≡ line
unfolding lib.Utf8.encode
after_less line c is = rw is refl

pub escaped_greater : (line c : ℕ) → c ≡ 62 → escape_text line (encode_utf8 c) ≡ codes "&gt;"
unfolding lib.Utf8.encode
escaped_greater line c is = rw is refl

pub after_greater : (line c : ℕ) → c ≡ 62 → line_after line (encode_utf8 c) ≡ line
unfolding lib.Utf8.encode
after_greater line c is = rw is refl

pub escaped_ampersand : (line c : ℕ) → c ≡ 38 → escape_text line (encode_utf8 c) ≡ codes "&amp;"
unfolding lib.Utf8.encode
escaped_ampersand line c is = rw is refl

pub after_ampersand : (line c : ℕ) → c ≡ 38 → line_after line (encode_utf8 c) ≡ line
unfolding lib.Utf8.encode
after_ampersand line c is = rw is refl

pub escaped_quote : (line c : ℕ) → c ≡ 34 → escape_text line (encode_utf8 c) ≡ codes "&quot;"
unfolding lib.Utf8.encode
escaped_quote line c is = rw is refl

pub after_quote : (line c : ℕ) → c ≡ 34 → line_after line (encode_utf8 c) ≡ line
unfolding lib.Utf8.encode
after_quote line c is = rw is refl

pub escaped_character : (line c : ℕ) → (c ≡ 10 → ⊥) → (c ≡ 60 → ⊥) → (c ≡ 62 → ⊥) → (c ≡ 38 → ⊥) → (c ≡ 34 → ⊥)
    → escape_text line (encode_utf8 c) ≡ encode_utf8 c
escaped_character line c feed less more ampersand quote =
    bare_escaped line _ (character_bare c feed less more ampersand quote)

pub line_after_character : (line c : ℕ) → (c ≡ 10 → ⊥) → (c ≡ 60 → ⊥) → (c ≡ 62 → ⊥) → (c ≡ 38 → ⊥) → (c ≡ 34 → ⊥)
    → line_after line (encode_utf8 c) ≡ line
line_after_character line c feed less more ampersand quote =
    bare_line line _ (character_bare c feed less more ampersand quote)

pub ruleset of_character = (
  escaped_feed,
  after_feed,
  escaped_less,
  after_less,
  escaped_greater,
  after_greater,
  escaped_ampersand,
  after_ampersand,
  escaped_quote,
  after_quote,
  escaped_character,
  line_after_character,
)

-- ---- the loop over the characters of a text

pub escaped_step : (before out : List ℕ) (line next : ℕ) (rest part after whole : List ℕ)
    → rest ≡ part ++ after → out ≡ before ++ escape_text line part → next ≡ line_after line part
    → before ++ escape_text line rest ≡ whole → out ++ escape_text next after ≡ whole
escaped_step before out line next rest part after whole split is moved all =
    ap (λ l. l ++ escape_text next after) is ∙ append_assoc before (escape_text line part) (escape_text next after)
    ∙ ap (λ l. before ++ l) (ap (λ n. escape_text line part ++ escape_text n after) moved
    ∙ sym (escaped-append line part after) ∙ ap (escape_text line) (sym split))
    ∙ all

pub line_step : (line next : ℕ) (rest part after : List ℕ) (whole : ℕ)
    → rest ≡ part ++ after → next ≡ line_after line part → line_after line rest ≡ whole → line_after next after ≡ whole
line_step line next rest part after whole split moved all =
    ap (λ n. line_after n after) moved ∙ sym (line_after-append line part after) ∙ ap (line_after line) (sym split)
    ∙ all

pub line_end : (line : ℕ) (rest : List ℕ) (whole : ℕ) → rest ≡ [] → line_after line rest ≡ whole → line ≡ whole
line_end line rest whole none all = ap (line_after line) (sym none) ∙ all

-- ---- a text in its span

pub span_opened : (before one two after class mark : List ℕ) → one ≡ before ++ codes "<span class=" → two ≡ one ++ class
    → after ≡ two ++ mark → mark ≡ codes ">" → after ≡ before ++ (codes "<span class=" ++ (class ++ codes ">"))
span_opened before one two after class mark opened named closed is =
    rw (closed, is, named, opened) (append_assoc (before ++ codes "<span class=") class (codes ">")
    ∙ append_assoc before (codes "<span class=") (class ++ codes ">"))

pub span_parts : (before one two after class text : List ℕ) → (length class == 0) ≡ false
    → one ≡ before ++ (codes "<span class=" ++ (class ++ codes ">")) → two ≡ one ++ text
    → after ≡ two ++ codes "</span>"
    → after ≡ before ++ in_span class text
span_parts before one two after class text some opened shown closed =
    let opener = codes "<span class=" ++ (class ++ codes ">") in
    let closer = codes "</span>" in
    rw (
      some,
      closed,
      shown,
      opened,
      append_assoc (before ++ opener) text closer,
      append_assoc before opener (text ++ closer),
    )
    (ap (λ l. before ++ l) (append_assoc (codes "<span class=") (class ++ codes ">") (text ++ closer)
    ∙ ap (λ l. codes "<span class=" ++ l) (append_assoc class (codes ">") (text ++ closer))))

-- ---- the bytes before the first that is escaped

are_bare : (text : List ℕ) (size : ℕ) → size ≤ length text → ((k : ℕ) → k < size → IsBare (get_or text k 0))
    → AreBare (take size text)
are_bare text size within bare = record {
  none = λ k below.
      let inside : k < size = omega (arith, below, length-take-le size text within) in
      subst IsBare (sym (get_or-take size text k 0 inside)) (bare k inside);
}

pub bare_shown : (before out : List ℕ) (line : ℕ) (text : List ℕ) (size : ℕ) (front rest : List ℕ)
    → size ≤ length text → ((k : ℕ) → k < size → IsBare (get_or text k 0)) → front ≡ take size text
    → rest ≡ drop size text → out ≡ before ++ front → out ++ escape_text line rest ≡ before ++ escape_text line text
bare_shown before out line text size front rest within bare fronts rests is =
    let each = are_bare text size within bare in
    let whole : escape_text line text ≡ take size text ++ escape_text line (drop size text) =
    ap (escape_text line) (sym (take-append-drop size text))
    ∙ escaped-append line (take size text) (drop size text)
    ∙ ap (λ l. l ++ escape_text (line_after line (take size text)) (drop size text))
    (bare_escaped line (take size text) each)
    ∙ ap (λ n. take size text ++ escape_text n (drop size text)) (bare_line line (take size text) each) in
    rw (is, fronts, rests, whole) (append_assoc before (take size text) (escape_text line (drop size text)))

pub bare_line_after : (line : ℕ) (text : List ℕ) (size : ℕ) (rest : List ℕ)
    → size ≤ length text → ((k : ℕ) → k < size → IsBare (get_or text k 0))
    → rest ≡ drop size text → line_after line rest ≡ line_after line text
bare_line_after line text size rest within bare rests =
    ap (line_after line) rests
    ∙ ap (λ n. line_after n (drop size text)) (sym (bare_line line (take size text) (are_bare text size within bare)))
    ∙ sym (line_after-append line (take size text) (drop size text))
    ∙ ap (line_after line) (take-append-drop size text)
