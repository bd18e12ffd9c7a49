use Rattle.pm_token.proofs.TestTokens.{is_built_low_line}
use Rattle.pm_stream_tests.proofs.tests.built_streams.name.Goals as goal

pub ident-requires : goal.ident-requires
ident-requires c = is_built_low_line
