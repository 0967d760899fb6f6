use Rattle.host_talk.proofs.RequestLemmas.Hearing.{settled_conv, conv_settled, part_goes_on, talk_is_part, aside_goes_on, foul_blocks, blocks_foul}
use Rattle.host_talk.proofs.request.laws.hearing_is_talking.Goals as goal

pub returns-clause-settled : goal.returns-clause-settled
returns-clause-settled c = λ replies q part at text m f talks reads plain. (settled_conv replies q part at text m f talks reads plain, λ both. conv_settled q part at text m f reads plain both.1)

pub returns-clause-part : goal.returns-clause-part
returns-clause-part c = λ replies q part at text m talks reads plain. (part_goes_on replies q part at text m talks reads plain, λ both. talk_is_part replies q part at text m talks reads plain both.0 both.1)

pub returns-clause-aside : goal.returns-clause-aside
returns-clause-aside c = λ replies q part at text m lines talks reads aside owed. aside_goes_on replies q part at text m lines talks reads aside owed

pub returns-clause-foul : goal.returns-clause-foul
returns-clause-foul c = λ replies q part at text m talks reads plain. (foul_blocks replies q part at text m reads plain, λ both. blocks_foul replies q part at text m talks reads plain both.0 both.1)
