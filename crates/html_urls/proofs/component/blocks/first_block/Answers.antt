use Rattle.html_urls.specs.declared.component.TheConstants.{COMPONENT}
use Rattle.html_urls.proofs.Components.{encoded_parts, unreserved_parts}
use Rattle.html_urls.proofs.component.blocks.first_block.Goals as goal

pub returns-clause-parts : goal.returns-clause-parts
returns-clause-parts c = encoded_parts COMPONENT c.args.bytes.now _ _ _ c.split_at.ensures.front c.split_at.ensures.back

pub returns-clause-unreserved : goal.returns-clause-unreserved
returns-clause-unreserved c = unreserved_parts c.args.bytes.now _ _ _ c.split_at.ensures.front c.split_at.ensures.back
