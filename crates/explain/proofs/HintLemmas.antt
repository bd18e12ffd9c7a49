-- The hints are right.
use Rattle.std.proofs.Common.{◌≡◌, ℕ, List, [], ◌∷◌, ◌++◌, codes, length, Option, Some, None, inl, inr, refl, sym}
use Rattle.std.proofs.Common.{ap, ◌∙◌, subst, append_assoc, append-nil}
use Rattle.std.specs.Prelude.{IfSome}
use Rattle.std.specs.Str.{chars, encode_utf8_all}
use Rattle.lexical.specs.Comment.{BlockComment}
use Rattle.lexical.specs.Form.{HasNone}
use Rattle.lexical.specs.Rule.{Stands}
use Rattle.lexical.specs.declared.cursor.TextCursor.{TextCursor}
use Rattle.lexical.specs.declared.quoted.StringKind.{StringKind}
use Rattle.pm_token.specs.declared.delimiters.Delimiter.{Delimiter}
use Rattle.pm_stream.specs.Parsing.{is_first}
use Rattle.explain.specs.Explained.{IsExplained, IsOpenerOf, IsStretch, IsStuck, SaysLeftOpen}
use Rattle.explain.specs.Hint.{AreOpen, Helps, IsHint, IsNearest, TellsComments}
use Rattle.explain.specs.HintWalk.{CameNearest, LeftComments}
use Rattle.explain.specs.Open.{RefusesFor}
use Rattle.explain.specs.Reason.{Holds}
use Rattle.explain.specs.Shapes.{closed_raw_body, raw_opening}
use Rattle.explain.specs.declared.explained.Explained.{Explained}
use Rattle.explain.specs.declared.explained.Opener.{Opener}
use Rattle.explain.specs.declared.explained.Stretch.{Stretch}
use Rattle.explain.specs.declared.reason.Reason.{Reason}
use Rattle.explain.specs.declared.reason.Reason.TheVariants as reasons
use Rattle.explain.specs.declared.reason.Reason.TheVariants.{UnclosedComment, UnclosedOpener, UnclosedRawString}

-- ---- where no piece begins

never_refused : (d : Delimiter) (reason : Reason) (innermost : Option Opener) → RefusesFor d reason innermost
    → (reason ≡ UnclosedComment → ⊥) × (reason ≡ UnclosedRawString → ⊥)
never_refused d reasons.StrayCloser None r = ((λ e. absurd (cc)), (λ e. absurd (cc)))
never_refused d reasons.StrayCloser (Some x) r = absurd r
never_refused d reasons.MismatchedCloser None r = absurd r
never_refused d reasons.MismatchedCloser (Some x) r = ((λ e. absurd (cc)), (λ e. absurd (cc)))
never_refused d _ innermost r = absurd r

module _ (base : ℕ) (source : List ℕ) (x : Explained) (h : IsExplained base source x) where
  stuck_comment : x.reason ≡ UnclosedComment → IsStuck base h.text_before (is_first h.pieces) h.rest x
  stuck_comment is = elim h.because [
    | inl s ↦ s
    | inr (inl s) ↦ absurd ((never_refused _ x.reason x.innermost s.refuses).0 is)
    | inr (inr s) ↦ let clash : UnclosedComment ≡ UnclosedOpener = sym is ∙ s.says.reason in absurd (cc)
  ]

  stuck_raw : x.reason ≡ UnclosedRawString → IsStuck base h.text_before (is_first h.pieces) h.rest x
  stuck_raw is = elim h.because [
    | inl s ↦ s
    | inr (inl s) ↦ absurd ((never_refused _ x.reason x.innermost s.refuses).1 is)
    | inr (inr s) ↦ let clash : UnclosedRawString ≡ UnclosedOpener = sym is ∙ s.says.reason in absurd (cc)
  ]

  -- a fault because of a block comment that doesn't end
  pub record CommentFault : Type 0 where
    pub text_before : List ℕ
    pub more : List ℕ
    pub whole : source ≡ text_before ++ (codes "/*" ++ more)
    pub at : IsStretch base text_before (codes "/*") x.at
    pub none : HasNone BlockComment (codes "/*" ++ more)
    pub fault : x.before.start ≡ length (encode_utf8_all text_before)

  pub comment_fault : x.reason ≡ UnclosedComment → CommentFault
  comment_fault is =
      let s = stuck_comment is in
      let holds : Holds UnclosedComment s.front s.part s.after =
      subst (λ r. Holds r s.front s.part s.after) is s.holds in
      let front : s.front ≡ [] = holds.0.0 in
      let part : s.part ≡ codes "/*" = holds.0.1 in
      let split : s.front ++ (s.part ++ s.after) ≡ codes "/*" ++ s.after =
      ap (λ t. t ++ (s.part ++ s.after)) front ∙ ap (λ t. t ++ s.after) part in
      record {
        text_before = h.text_before;
        more = s.after;
        whole = h.whole ∙ ap (λ t. h.text_before ++ t) (s.split ∙ split);
        at = subst (λ b. IsStretch base b (codes "/*") x.at)
            (ap (λ t. h.text_before ++ t) front ∙ append-nil h.text_before)
            (subst (λ t. IsStretch base (h.text_before ++ s.front) t x.at) part s.at);
        none = subst (HasNone BlockComment) split holds.1;
        fault = s.before.start;
      }

  -- a fault because of a raw string that doesn't end
  pub record RawFault : Type 0 where
    pub kind : StringKind
    pub text_before : List ℕ
    pub opening : List ℕ
    pub body : List ℕ
    pub whole : source ≡ text_before ++ (opening ++ body)
    pub opens : Stands (raw_opening kind) opening body
    pub at : IsStretch base text_before opening x.at
    pub fault : x.before.start ≡ length (encode_utf8_all text_before)

  pub raw_fault : x.reason ≡ UnclosedRawString → RawFault
  raw_fault is =
      let s = stuck_raw is in
      let holds : Holds UnclosedRawString s.front s.part s.after =
      subst (λ r. Holds r s.front s.part s.after) is s.holds in
      let front : s.front ≡ [] = holds.1.0 in
      record {
        kind = holds.0;
        text_before = h.text_before;
        opening = s.part;
        body = s.after;
        whole = h.whole ∙ ap (λ t. h.text_before ++ t) (s.split ∙ ap (λ t. t ++ (s.part ++ s.after)) front);
        opens = holds.1.1;
        at = subst (λ b. IsStretch base b s.part x.at) (ap (λ t. h.text_before ++ t) front ∙ append-nil h.text_before)
            s.at;
        fault = s.before.start;
      }

  -- the position of the fault in the text
  record Fault : Type 0 where
    text_before : List ℕ
    rest : List ℕ
    whole : source ≡ text_before ++ rest
    fault : x.before.start ≡ length (encode_utf8_all text_before)

  left_fault : (says : SaysLeftOpen x) → Fault
  left_fault says =
      let o : IsOpenerOf base source says.opener =
      subst (λ i. IfSome i (IsOpenerOf base source)) says.innermost h.inmost in
      record {
        text_before = o.text_before;
        rest = o.character ∷ o.after;
        whole = o.whole;
        fault = ap (λ s. s.start) says.before ∙ o.at.start;
      }

  fault_of : Fault
  fault_of = elim h.because [
    | inl s ↦ record { text_before = h.text_before; rest = h.rest; whole = h.whole; fault = s.before.start }
    | inr (inl s) ↦ record { text_before = h.text_before; rest = h.rest; whole = h.whole; fault = s.before.start }
    | inr (inr s) ↦ left_fault s.says
  ]

  helps_none : (text_before rest : List ℕ) (reason : Reason) → (reason ≡ UnclosedComment → ⊥)
      → (reason ≡ UnclosedRawString → ⊥) → Helps base text_before rest reason None
  helps_none text_before rest UnclosedComment comment raw = absurd (comment refl)
  helps_none text_before rest UnclosedRawString comment raw = absurd (raw refl)
  helps_none text_before rest _ comment raw = tt

  pub no_hint : (x.reason ≡ UnclosedComment → ⊥) → (x.reason ≡ UnclosedRawString → ⊥) → IsHint base source x None
  no_hint comment raw =
      let f = fault_of in
      record {
        text_before = f.text_before;
        rest = f.rest;
        whole = f.whole;
        fault = f.fault;
        helps = helps_none f.text_before f.rest x.reason comment raw;
      }

-- ---- what the loops found

module _ (base : ℕ) (text_before rest : List ℕ) (start : TextCursor) (same : chars start.rest.now ≡ rest) where
  pub comments_reason : (depth : ℕ) → LeftComments start depth None → TellsComments base text_before rest depth None
  comments_reason depth h = subst (λ t. TellsComments base text_before t depth None) same h

  pub last_reason : (depth : ℕ) (from to : TextCursor) (x : Stretch) → (h : LeftComments start depth (Some (from, to)))
      → IsStretch base (text_before ++ h.1.before.part) h.1.comment.part x
      → TellsComments base text_before rest depth (Some x)
  last_reason depth from to x h at =
      let e = h.1 in (
        subst (λ t. AreOpen depth t []) same h.0,
        record {
          before = e.before.part;
          comment = e.comment.part;
          after = chars to.rest.now;
          whole = sym same ∙ (e.before.whole ∙ ap (λ t. e.before.part ++ t) e.comment.whole);
          depth = e.depth;
          inside = subst (AreOpen e.depth e.before.part) e.comment.whole e.inside;
          stands = e.stands;
          last = e.last;
          at = at;
        },
      )

module _ (base : ℕ) (text_before opening body : List ℕ) (kind : StringKind)
    (opens : Stands (raw_opening kind) opening body)
    (inside : TextCursor) (same : chars inside.rest.now ≡ body) where
  pub no_quote_reason : HasNone (Stands (closed_raw_body [])) (chars inside.rest.now)
      → Helps base text_before (opening ++ body) UnclosedRawString None
  no_quote_reason none = record {
    kind = kind;
    opening = opening;
    body = body;
    whole = refl;
    opens = opens;
    none = subst (HasNone (Stands (closed_raw_body []))) same none;
  }

  pub nearest_reason : (from to : TextCursor) (x : Stretch) → (h : CameNearest inside from to)
      → IsStretch base (text_before ++ (opening ++ h.before.part)) (34 ∷ h.signs) x
      → IsNearest base text_before (opening ++ body) x
  nearest_reason from to x h at =
      let split : body ≡ h.before.part ++ ((34 ∷ h.signs) ++ chars to.rest.now) =
      sym same ∙ (h.before.whole ∙ ap (λ t. h.before.part ++ t) h.quote) in
      record {
        kind = kind;
        opening = opening;
        before = h.before.part;
        signs = h.signs;
        after = chars to.rest.now;
        whole = ap (λ t. opening ++ t) split;
        opens = subst (Stands (raw_opening kind) opening) split opens;
        run = h.run;
        closes = h.closes;
        most = subst (λ t. HasNone (Stands (closed_raw_body (35 ∷ h.signs))) t) (same ∙ split) h.most;
        at = at;
      }

-- the text after what opens a raw string
pub past_opening : (text text_before opening body : List ℕ) → text ≡ text_before ++ (opening ++ body)
    → text ≡ (text_before ++ opening) ++ body
past_opening text text_before opening body e = e ∙ sym (append_assoc text_before opening body)
