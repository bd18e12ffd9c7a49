use Rattle.pm_stream.specs.Printed.{printed}
use Rattle.proc_macro2.proofs.Returns.{comes_back, given_spaced, parsed_spaced, same_printed, one_text}
use Rattle.proc_macro2.proofs.BuiltLemmas.{parsed_built, printed_text}
use Rattle.proc_macro2.proofs.laws.printed_comes_back.Goals as goal

pub returns : goal.returns
returns c = record {
  back = λ base s built. (given_spaced base (printed s) s, comes_back base s built);
  parsed = parsed_spaced;
  given = given_spaced;
  built = parsed_built;
  printed = printed_text;
  exactly = λ s built. (
    λ h. given_spaced h.0 h.1 s h.3,
    λ w. (0, printed s, printed_text s built, comes_back 0 s built w),
  );
  text = λ s t bs bt ws wt. (same_printed s t, one_text s t bs bt ws wt);
}
