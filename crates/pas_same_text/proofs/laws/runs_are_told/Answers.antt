-- Runs of pages.
use Rattle.pas_same_text.proofs.SearchedPages.{whole_page, page_whole, usable_page, page_usable, lowest_found, none_lowest, named_whole, whole_named}
use Rattle.pas_same_text.proofs.laws.runs_are_told.Goals as goal

pub returns-clause-whole : goal.returns-clause-whole
returns-clause-whole c = λ f p w heap page rest pages of. (whole_page f p w rest.valid rest.between pages rest.same heap of page, page_whole f p w rest.valid rest.between pages rest.same heap of page)

pub returns-clause-usable : goal.returns-clause-usable
returns-clause-usable c = λ f p w heap page rest pages of. (usable_page f p w rest.valid rest.between pages rest.same heap of page, page_usable f p w rest.valid rest.between pages rest.same heap of page)

pub returns-clause-lowest : goal.returns-clause-lowest
returns-clause-lowest c = λ f p w heap n first rest pages of some run. lowest_found f p w rest.valid rest.between pages rest.same heap of n first some run

pub returns-clause-none : goal.returns-clause-none
returns-clause-none c = λ f p w heap n rest pages of none. none_lowest f p w rest.valid rest.between pages rest.same heap of n none

pub returns-clause-named : goal.returns-clause-named
returns-clause-named c = λ f p w heap n first rest pages of some. (
  named_whole f p w rest.valid rest.between pages rest.same heap of n first some,
  whole_named f p w rest.valid rest.between pages rest.same heap of n first,
)
