use Rattle.uses.proofs.templates.page_script.PageScript.append.Goals as goal

pub returns-clause-text : goal.returns-clause-text
returns-clause-text c = rw c.args.self.now.told at c.in_ok-append.ensures.appended
