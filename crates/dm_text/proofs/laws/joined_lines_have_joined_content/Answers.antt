use Rattle.dm_text.proofs.Contents.{content-append}
use Rattle.dm_text.proofs.laws.joined_lines_have_joined_content.Goals as goal

pub returns : goal.returns
returns c = content-append
