-- States of the text beside words and views.
use Rattle.pas_same_text.proofs.{FreeGrains.{free_same, keeper, kept_by}, RestingPages.{is_opened, offered_bit, bit_offered}}
use Rattle.pas_same_text.proofs.laws.states_are_told.Goals as goal

pub returns-clause-free : goal.returns-clause-free
returns-clause-free c = λ f p w rest page b small. free_same f p w rest.valid rest.between rest.same page b small

pub returns-clause-kept : goal.returns-clause-kept
returns-clause-kept c = λ f p w rest page kept. keeper f p w rest.valid rest.between rest.same page kept

pub returns-clause-keeps : goal.returns-clause-keeps
returns-clause-keeps c = λ f p w rest k page has. kept_by f p w rest.valid rest.between rest.same k page has

pub returns-clause-offered : goal.returns-clause-offered
returns-clause-offered c = λ f p w rest page d of offered. offered_bit f p w rest.valid rest.between rest.same page d of offered

pub returns-clause-offers : goal.returns-clause-offers
returns-clause-offers c = λ f p w rest page d of bit none room. bit_offered f p w rest.valid rest.between rest.same page d of bit (is_opened w d page none room)
