use Rattle.un_exchange.proofs.Texts.{text_200, text_400, text_404, text_405, text_409, text_411, text_413, text_422, text_431, text_500, text_501, text_503}
use Rattle.un_exchange.proofs.status.Status.http_body.Goals as goal

pub returns-in-Ok-clause-text : goal.returns-in-Ok-clause-text
returns-in-Ok-clause-text c = rw c.in-Ok.is text_200

pub returns-in-BadRequest-clause-text : goal.returns-in-BadRequest-clause-text
returns-in-BadRequest-clause-text c = rw c.in-BadRequest.is text_400

pub returns-in-NotFound-clause-text : goal.returns-in-NotFound-clause-text
returns-in-NotFound-clause-text c = rw c.in-NotFound.is text_404

pub returns-in-WrongMethod-clause-text : goal.returns-in-WrongMethod-clause-text
returns-in-WrongMethod-clause-text c = rw c.in-WrongMethod.is (text_405 c.in-WrongMethod.allow_get)

pub returns-in-Conflict-clause-text : goal.returns-in-Conflict-clause-text
returns-in-Conflict-clause-text c = rw c.in-Conflict.is text_409

pub returns-in-LengthRequired-clause-text : goal.returns-in-LengthRequired-clause-text
returns-in-LengthRequired-clause-text c = rw c.in-LengthRequired.is text_411

pub returns-in-TooLarge-clause-text : goal.returns-in-TooLarge-clause-text
returns-in-TooLarge-clause-text c = rw c.in-TooLarge.is text_413

pub returns-in-Unprocessable-clause-text : goal.returns-in-Unprocessable-clause-text
returns-in-Unprocessable-clause-text c = rw c.in-Unprocessable.is text_422

pub returns-in-HeadTooLarge-clause-text : goal.returns-in-HeadTooLarge-clause-text
returns-in-HeadTooLarge-clause-text c = rw c.in-HeadTooLarge.is text_431

pub returns-in-Denied-clause-text : goal.returns-in-Denied-clause-text
returns-in-Denied-clause-text c = rw c.in-Denied.is text_500

pub returns-in-NotImplemented-clause-text : goal.returns-in-NotImplemented-clause-text
returns-in-NotImplemented-clause-text c = rw c.in-NotImplemented.is text_501

pub returns-in-Unavailable-clause-text : goal.returns-in-Unavailable-clause-text
returns-in-Unavailable-clause-text c = rw c.in-Unavailable.is text_503
